use Rattle.std.proofs.Common.{rules, ◌≡◌, ◌+◌, [], ◌∷◌, ◌++◌, ap, refl, ◌∙◌, subst}
use Rattle.iso_latch.specs.Told.{seen_of, voices_of}
use Rattle.iso_threads.specs.Backs.{AllBack, voices}
use Rattle.iso_threads.proofs.Returned.{all_first, begins_self, begins_then, voices-in, voices-snoc}
use Rattle.iso_threads.proofs.lead.take_all.Goals as goal

pub take_in-pass-requires-clause-back : goal.take_in-pass-requires-clause-back
take_in-pass-requires-clause-back c = let items : c.loop-back.here.items ≡ c.pop.new.self.items ++ c.in-Some.back ∷ [] = search rules in
    (all_first c.args.latch.now.table.shared.table_id c.args.script.now c.pop.new.self.items c.in-Some.back
    (subst (AllBack c.args.latch.now.table.shared.table_id c.args.script.now) items c.loop-back.invariant.all)).1

pub loop-back-preserved : goal.loop-back-preserved
loop-back-preserved c =
    let inv = c.loop-back.invariant in
    let id = c.args.latch.now.table.shared.table_id in
    let items : c.loop-back.here.items ≡ c.pop.new.self.items ++ c.in-Some.back ∷ [] = search rules in
    let e = c.take_in-pass.ensures in
    record {
      pass = e.pass;
      keep = e.keep;
      all = (all_first id c.args.script.now c.pop.new.self.items c.in-Some.back (subst (AllBack id c.args.script.now) items inv.all)).0;
      begins = begins_then (seen_of c.args.pass.seat) (seen_of c.loop-back.pass.seat) (seen_of c.take_in-pass.result.seat) inv.begins e.begins;
      voices = λ x. voices-in x (c.in-Some.back.conn.0 + 1) (voices_of c.loop-back.pass.seat) (voices_of c.take_in-pass.result.seat)
          (voices c.pop.new.self.items) (voices c.loop-back.here.items) e.voices (ap voices items ∙ voices-snoc c.pop.new.self.items c.in-Some.back)
          ∙ inv.voices x;
    }

pub loop-back-init : goal.loop-back-init
loop-back-init c = record {
  pass = c.requires.pass;
  keep = c.requires.keep;
  all = c.requires.all;
  begins = begins_self
      (seen_of c.args.pass.seat);
  voices = λ x. refl;
}
