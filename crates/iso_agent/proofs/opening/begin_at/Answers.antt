use Rattle.std.proofs.Common.{◌∙◌, ap, sym}
use Rattle.std.specs.Option.{option_copied}
use Rattle.std.specs.Prelude.{◌==◌}
use Rattle.iso_agent.proofs.ScansBegin.{found-all}
use Rattle.iso_script.specs.Sound.{is_sound_line}
use Rattle.iso_script.specs.declared.script.Line.{Line}
use Rattle.iso_agent.proofs.opening.begin_at.Goals as goal

pub begin-requires-clause-sound : goal.begin-requires-clause-sound
begin-requires-clause-sound c =
    found-all (λ (l : Line). l.number == c.args.desk.now.line) (is_sound_line c.args.head.now) c.args.lines.now c.in-Some.line.now c.requires.sound
    (sym c.line_at.ensures ∙ ap option_copied c.in-Some.is)
