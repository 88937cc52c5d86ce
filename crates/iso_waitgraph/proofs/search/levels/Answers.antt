use Rattle.std.proofs.Common.{◌≡◌, ◌-◌, ◌+◌, ◌↔◌, ℕ, suc, true, arith, subst, length-set}
use Rattle.iso_types.specs.Edges.{has_edge, leads}
use Rattle.iso_types.specs.declared.edges.Edges.{Edges}
use Rattle.iso_types.specs.declared.value.Conn.{Conn}
use Rattle.iso_waitgraph.specs.Walks.{IsAway}
use Rattle.iso_waitgraph.proofs.Distances.{levels-more, next-level, seen-more}
use Rattle.iso_waitgraph.proofs.search.levels.Goals as goal

pub loop-k-preserved : goal.loop-k-preserved
loop-k-preserved c =
    let edge = leads c.args.edges.now in
    let k : ℕ = c.loop-k.k in
    let e : k ≡ suc (k - 1) = omega arith in
    let now : (v : Conn) → (has_edge c.difference-level.result v ≡ true) ↔ IsAway edge c.args.end k v =
    next-level edge c.args.end (k - 1) k e (has_edge c.loop-k.level) (has_edge c.loop-k.seen) (has_edge c.before-in-loop-k.result) (has_edge c.difference-level.result)
    c.loop-k.invariant.level c.loop-k.invariant.seen c.before-in-loop-k.ensures c.difference-level.ensures in
    let back : k ≡ k + 1 - 1 = omega arith in
    let P : ℕ → Type 0 = λ n. (v : Conn) → (has_edge c.difference-level.result v ≡ true) ↔ IsAway edge c.args.end n v in
    record {
      full = rw (length-set {A = Edges}) c.loop-k.invariant.full;
      known = levels-more c.args.edges.now c.args.end c.loop-k.levels k c.difference-level.result (omega arith) c.loop-k.invariant.known now;
      level = subst P back now;
      seen = seen-more edge c.args.end k (has_edge c.loop-k.seen) (has_edge c.difference-level.result) (has_edge c.union-seen.result) c.loop-k.invariant.seen now c.union-seen.ensures;
    }
