use Rattle.std.proofs.Common.{arith, refl}
use Rattle.iso_generate.proofs.Onward.{accounts_on, fewer}
use Rattle.iso_generate.proofs.generating.put_accounts.Goals as goal

pub loop-left-preserved : goal.loop-left-preserved
loop-left-preserved c =
    let i = c.loop-left.invariant in
    let less = fewer c.loop-left.left c.args.count c.loop-left.id c.args.first c.loop-left-test.true i.few i.small in
    record {
      few = less.0;
      small = less.1;
      text = accounts_on c.loop-left.left c.loop-left.id _ _ _ _ c.loop-left-test.true c.in_ok-put_account.ensures refl i.text;
    }
