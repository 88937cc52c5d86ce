use Rattle.std.proofs.Common.{◌≡◌, ◌∙◌, Bool, List, [], ◌∷◌, true, false, true≢false, is_some, length, arith, refl, sym}
use Rattle.iso_types.specs.declared.value.Name.{Name}
use Rattle.iso_lines.proofs.Worked.{worked_still}
use Rattle.iso_lines.specs.Locks.{Entry}
use Rattle.iso_lines.specs.Named.{key_of, line_of}
use Rattle.iso_lines.specs.Tasks.{concerns}
use Rattle.iso_lines.proofs.work.work_at_hand.Goals as goal

-- no name stands among none
no-key : (es : List Entry) (n : Name) → length es ≡ 0 → is_some (key_of es n) ≡ false
no-key [] n e = refl
no-key (x ∷ es) n e = cc e

pub returns-else-len-gt0-clause-lines : goal.returns-else-len-gt0-clause-lines
returns-else-len-gt0-clause-lines c n =
    sym (worked_still c.args.tables.now c.args.task.now c.args.conn n (line_of c.args.lines.now n)
    (unconcerned (concerns c.args.task.now c.args.conn (line_of c.args.lines.now n)) refl))
  where
    none : is_some (key_of c.args.desk.now.loose.entries n) ≡ false
    none = no-key c.args.desk.now.loose.entries n (omega (arith, c.if-len-gt0.false, c.len.ensures.len))

    unconcerned : (b : Bool) → concerns c.args.task.now c.args.conn (line_of c.args.lines.now n) ≡ b → b ≡ false
    unconcerned true e = absurd (true≢false (sym (c.requires.seated.at_hand n (c.requires.concerned (line_of c.args.lines.now n) e)) ∙ none))
    unconcerned false e = refl
