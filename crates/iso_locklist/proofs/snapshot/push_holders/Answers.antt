use Rattle.iso_locklist.specs.Places.{place}
use Rattle.iso_locklist.proofs.Listing.{holder_more}
use Rattle.iso_locklist.proofs.snapshot.push_holders.Goals as goal

pub loop-conn-preserved : goal.loop-conn-preserved
loop-conn-preserved c = holder_more (place c.args.name.now c.args.queue.now) c.args.lines.now c.loop-conn.lines c.push_holder.new.lines c.loop-conn.conn c.loop-conn.invariant c.in_ok-push_holder.ensures
