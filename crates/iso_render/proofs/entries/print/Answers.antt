use Rattle.std.proofs.Common.{◌≡◌, ◌≤◌, ◌++◌, ℕ, List, length, ap, ◌∙◌, sym, subst, arith, true}
use Rattle.iso_render.specs.Opened.{are_below}
use Rattle.iso_render.specs.Transcript.{printed}
use Rattle.iso_render.specs.declared.opened.OpenLine.{OpenLine}
use Rattle.iso_render.proofs.Lines.{none-below}
use Rattle.iso_render.proofs.entries.print.Goals as goal

pub loop-entry-init : goal.loop-entry-init
loop-entry-init c = record {
  told = ap (λ (out : List ℕ). out ++ printed c.args.script.now c.in_ok-opens.opens.items c.args.entries.now) c.new-out.ensures.items
      ∙ ap (λ (opens : List OpenLine). printed c.args.script.now opens c.args.entries.now) c.in_ok-opens.ensures;
  passed = subst (λ at. (at ≤ length c.args.script.now.lines) × (are_below c.args.script.now.lines at c.none-passed.result.below ≡ true))
      (sym c.none-passed.ensures.0) (omega arith, none-below c.args.script.now.lines c.none-passed.result.below);
}
