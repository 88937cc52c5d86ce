use Rattle.iso_render.specs.Texts.{conn_name}
use Rattle.iso_render.proofs.Members.{members_on}
use Rattle.iso_render.proofs.acts.put_cycle.Goals as goal

pub loop-at-preserved : goal.loop-at-preserved
loop-at-preserved c =
    members_on (conn_name c.args.head.now) c.args.cycle.now c.loop-at.at c.member.result _ _ _ c.member.ensures c.in_ok-put_member.ensures
    c.loop-at.invariant
