use Rattle.std.proofs.Common.{◌++◌, ◌∙◌, ap}
use Rattle.iso_generate.specs.Generated.{body_text}
use Rattle.iso_generate.proofs.Onward.{lines_on}
use Rattle.iso_generate.proofs.generating.put_lines.Goals as goal

pub loop-left-preserved : goal.loop-left-preserved
loop-left-preserved c =
    lines_on c.loop-left.left c.loop-left.words _ _ _ _ c.loop-left-test.true
    (c.in_ok-put_body.ensures ∙ ap (λ b. c.loop-left.out.items ++ body_text b) c.drawn.ensures.body) c.drawn.ensures.on c.loop-left.invariant
