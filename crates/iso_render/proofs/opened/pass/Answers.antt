use Rattle.std.proofs.Common.{arith, refl}
use Rattle.iso_render.proofs.Lines.{below-more, below-next}
use Rattle.iso_render.proofs.opened.pass.Goals as goal

pub loop-passed-init : goal.loop-passed-init
loop-passed-init c = record {
  within = c.requires.passed.0;
  below = below-more c.args.lines.now c.args.passed.now.at c.args.passed.now.below c.args.number c.requires.rises c.requires.passed.1;
  same = refl;
}

pub loop-passed-preserved : goal.loop-passed-preserved
loop-passed-preserved c = record {
  within = omega (arith, c.loop-passed-test.true);
  below = below-next c.args.lines.now c.loop-passed.passed.at c.args.number c.index-lines-passed.result c.loop-passed-test.true
      c.if-lines-passed.true c.loop-passed.invariant.below;
  same = c.loop-passed.invariant.same;
}
