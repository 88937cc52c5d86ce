use Rattle.std.proofs.Common.{◌≡◌, ◌∙◌, ◌-◌, ℕ, List, length, take, drop, ap, sym, subst, arith, true}
use Rattle.std.proofs.lemmas.List.{length-drop, take_all}
use Rattle.iso_render.specs.Opened.{are_below, changes_at}
use Rattle.iso_render.proofs.Lines.{changes-behind}
use Rattle.iso_render.proofs.opened.changes_line.Goals as goal
use Rattle.iso_script.specs.declared.script.Line.{Line}

rest-whole : (lines : List Line) (at : ℕ) → take (length lines - at) (drop at lines) ≡ drop at lines
rest-whole lines at =
    let same = length-drop at lines in
    take_all (length lines - at) (drop at lines) (omega (arith, same))

pub returns-clause-changes : goal.returns-clause-changes
returns-clause-changes c =
    c.changes_among-2.ensures
    ∙ ap (λ (ls : List Line). changes_at ls c.args.number) (rest-whole c.args.lines.now c.pass.new.passed.at)
    ∙ sym (changes-behind c.args.lines.now c.pass.new.passed.at c.args.number
    (subst (λ n. are_below c.args.lines.now c.pass.new.passed.at n ≡ true) c.pass.ensures.below c.pass.ensures.passed.1))
