use Rattle.std.proofs.Common.{ap, sym, ◌∙◌, List, ℕ, subst}
use Rattle.iso_latch.specs.Seen.{has}
use Rattle.iso_latch.specs.Told.{seen_of, voices_of}
use Rattle.iso_latch.proofs.Voices.{has_left}
use Rattle.iso_threads.specs.Kept.{AllKeep}
use Rattle.iso_threads.proofs.Others.{all-meet}
use Rattle.iso_threads.proofs.Returned.{back-keeps}
use Rattle.iso_threads.proofs.lead.take_in.Goals as goal

pub returns-clause-pass : goal.returns-clause-pass
returns-clause-pass c = let e = c.meet.ensures in let p = c.requires.pass in record {
  of = e.of.0 ∙ p.of;
  head = e.of.1 ∙ p.head;
  voice = ap (has 0) e.voices ∙ has_left 0 (voices_of c.args.pass.seat) (voices_of c.args.back.pass.seat) p.voice;
}

pub returns-clause-keep : goal.returns-clause-keep
returns-clause-keep c = let e = c.meet.ensures in subst (λ (vs : List ℕ). AllKeep c.args.script.now vs (seen_of c.meet.result.seat)) (sym e.voices)
    (all-meet c.args.script.now (voices_of c.args.pass.seat) (voices_of c.args.back.pass.seat) (seen_of c.args.pass.seat)
    (seen_of c.args.back.pass.seat) (seen_of c.meet.result.seat) e.first e.second c.requires.keep
    (back-keeps c.args.latch.now.table.shared.table_id c.args.script.now c.args.back c.requires.back))
