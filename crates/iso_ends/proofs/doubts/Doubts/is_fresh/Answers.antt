use Rattle.iso_ends.proofs.FreshAlong.{fresh-now}
use Rattle.iso_ends.proofs.StaleWalks.{fresh-none, none-any}
use Rattle.iso_state.specs.Stands.{world_of}
use Rattle.iso_ends.proofs.doubts.Doubts.is_fresh.Goals as goal

pub widen-requires : goal.widen-requires
widen-requires c = c.knows_fresh.ensures.kept.sets

pub returns-then-may_be_stale-clause-kept : goal.returns-then-may_be_stale-clause-kept
returns-then-may_be_stale-clause-kept c = record { fresh = c.knows_fresh.ensures.kept.fresh; sets = c.may_be_stale.ensures.known }

pub returns-clause-kept : goal.returns-clause-kept
returns-clause-kept c =
    let p = c.args.parts.now in
    record {
      fresh = fresh-now p.head p.history.items c.len.result c.len.ensures (c.may_be_stale.ensures.fresh c.if-may_be_stale.false);
      sets = c.may_be_stale.ensures.known;
    }

pub returns-clause-none : goal.returns-clause-none
returns-clause-none c e =
    let p = c.args.parts.now in
    fresh-none p.head (world_of p) (none-any p.head (world_of p) (c.may_be_stale.ensures.fresh c.if-may_be_stale.false))
