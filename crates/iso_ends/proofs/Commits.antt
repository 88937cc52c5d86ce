-- The parts after a Commit.
use Rattle.std.proofs.Common.{◌≡◌, ◌≤◌, ◌<◌, ◌+◌, ◌-◌, inr, ℕ, false, List, length, refl, sym, subst, arith, None, Option}
use Rattle.std.specs.Prelude.{IfSome, slice_set}
use Rattle.std.proofs.Math.ListN.{length-set}
use Rattle.iso_chain.proofs.Carries.{no-row}
use Rattle.iso_chain.specs.Writes.{committed}
use Rattle.iso_history.proofs.limits.Others.{at-same}
use Rattle.iso_history.specs.After.{after}
use Rattle.iso_history.specs.Legal.{Allowed, Runs}
use Rattle.iso_history.specs.Makers.{by_agent}
use Rattle.iso_history.specs.Records.{left, left_of}
use Rattle.iso_history.specs.Units.{unit_of}
use Rattle.iso_history.specs.declared.entry.Act.TheVariants.{Commit}
use Rattle.iso_locklist.specs.Places.{IsSameLimits, Ledger}
use Rattle.iso_locklist.proofs.SettledLists.{all_dropped}
use Rattle.iso_queue.specs.Locks.{Hold, dropped}
use Rattle.iso_queue.specs.Queues.{unqueued}
use Rattle.iso_types.specs.declared.desk.Desk.{Desk}
use Rattle.iso_types.specs.declared.desk.Phase.TheVariants.{Idle}
use Rattle.iso_types.specs.declared.value.Conn.{Conn}
use Rattle.iso_state.proofs.ByKind.{reserved-covers}
use Rattle.iso_state.proofs.Commits.{committed-stands}
use Rattle.iso_state.proofs.Desks.{claims-own}
use Rattle.iso_state.proofs.Shuts.{shut-at}
use Rattle.iso_state.proofs.Steps.{conn-is, is-open, own-desk, own-place}
use Rattle.iso_state.specs.Changes.{stepped}
use Rattle.iso_locklist.specs.Holding.{LocksAre}
use Rattle.iso_state.specs.Stands.{IsDeskOf, StandsFor, content_of, desk_at, world_of}
use Rattle.iso_state.specs.Steps.{Spends}
use Rattle.iso_state.specs.declared.parts.Parts.{Parts}

module _ (p q : Parts) (c : Conn) (s : StandsFor p) (free : (world_of p).pace.finished ≡ false) (lt : c.0 < length p.head.conns) (runs : Runs (world_of p) c) where
  may-commit : Allowed p.head (world_of p) (by_agent c Commit)
  may-commit = (is-open (world_of p) free, refl, (conn-is p.head c lt, runs))

  -- what the unit has left is kept in reserve
  pub commit-covers : length (left_of (world_of p) c) + 2 ≤ p.reserved
  commit-covers = let k = reserved-covers (content_of p) (by_agent c Commit) s.stands may-commit in omega (arith, k)

  -- the connection's desk
  commit-desk : (d : Desk) → IsDeskOf (world_of p) c d → IsDeskOf (after p.head (world_of p) (by_agent c Commit)) c (record d { phase = Idle; claimed = false })
  commit-desk d is = record {
    phase = sym (shut-at (world_of p) c runs.0);
    line = subst (λ (o : Option ℕ). IfSome o (λ n. d.line ≡ n)) (sym (at-same (world_of p).line c None)) tt;
    isolation = is.isolation;
    may_wait = is.may_wait;
    doom = is.doom;
    start = is.start;
    claimed = claims-own (world_of p) c Commit;
  }

  pub commit-place : (l : Ledger) → Spends p q
      → LocksAre (dropped c (world_of p).holds) (unqueued c (world_of p).waits) l → IsSameLimits l p.locks
      → content_of q ≡ stepped (content_of p) (committed (content_of p).chain c (left (world_of p).records (unit_of (world_of p) c))) l
      (slice_set p.desks c.0 (record (desk_at p.desks c) { phase = Idle; claimed = false })) (p.reserved - (length (left_of (world_of p) c) + 2)) (by_agent c Commit)
      → StandsFor q
  commit-place l spends are same wrote =
      let covers = commit-covers in
      let more = spends.log in
      rw wrote (own-place (content_of p) c Commit (committed (content_of p).chain c (left (world_of p).records (unit_of (world_of p) c))) l
      (record (desk_at p.desks c) { phase = Idle; claimed = false }) (p.reserved - (length (left_of (world_of p) c) + 2))
      p.history.spare q.history.spare p.log.spare q.log.spare s may-commit
      (record { made = inr refl; pushed = spends.history; logged = omega (arith, more); bare = refl })
      (record {
        chain = committed-stands (content_of p) c s.stands runs;
        carried = no-row (content_of p).chain.log Commit refl;
        works = length-set (content_of p).chain.book.works c.0 None;
        entries = refl;
        locks = subst (λ (hs : List Hold). LocksAre hs (unqueued c (world_of p).waits) l) (all_dropped c None (world_of p).holds) are;
        limits = same;
        desk = commit-desk (desk_at p.desks c) (own-desk (content_of p) c (desk_at p.desks c) s.stands lt refl);
        reserved = omega (arith, covers);
      }))
