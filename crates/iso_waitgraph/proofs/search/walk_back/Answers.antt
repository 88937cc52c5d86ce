use Rattle.std.proofs.Common.{◌≡◌, ◌-◌, ◌<◌, ◌≤◌, ℕ, sym, suc, true, subst, arith, length-append}
use Rattle.iso_types.specs.Edges.{leads}
use Rattle.iso_types.specs.declared.value.Conn.{Conn}
use Rattle.iso_waitgraph.specs.Walks.{IsAway, IsNoNearer}
use Rattle.iso_waitgraph.proofs.Ways.{Completes, completes-more, completes-none, next-nearest, next-on}
use Rattle.iso_waitgraph.proofs.search.walk_back.Goals as goal

pub bounds-levels-left : goal.bounds-levels-left
bounds-levels-left c = omega arith

pub step-at-requires : goal.step-at-requires
unfolding leads
step-at-requires c =
    let on = c.loop-left.invariant.on in
    let short : c.loop-left.left < 32 = omega arith in
    (on.0, on.1, (c.requires.levels c.loop-left.left on.0 short).1 on.2)

pub loop-left-preserved : goal.loop-left-preserved
unfolding leads
loop-left-preserved c =
    let edge = leads c.args.edges.now in
    let start : Conn = c.args.start in
    let at : Conn = c.loop-left.at in
    let next : Conn = c.step-at.result in
    let left : ℕ = c.loop-left.left in
    let k : ℕ = left - 1 in
    let e : left ≡ suc k = omega arith in
    let short : left < 32 = omega arith in
    let away : IsAway edge start (suc k) next =
    let P : ℕ → Type 0 = λ n. IsAway edge start n next in subst P e ((c.requires.levels left next short).0 c.step-at.ensures.level) in
    let near : IsNoNearer edge start (suc k) at =
    let P : ℕ → Type 0 = λ n. IsNoNearer edge start n at in subst P e c.loop-left.invariant.nearest in
    let ways : Completes edge start c.args.last at (suc k) c.loop-left.cycle =
    let P : ℕ → Type 0 = λ n. Completes edge start c.args.last at n c.loop-left.cycle in subst P e c.loop-left.invariant.ways in
    let least : (w : Conn) → edge at w ≡ true → IsAway edge start (suc k) w → next.0 ≤ w.0 =
    λ w there level.
    let P : ℕ → Type 0 = λ n. IsAway edge start n w in
    c.step-at.ensures.least w there ((c.requires.levels left w short).1 (subst P (sym e) level)) in
    record {
      within = c.step-at.ensures.within;
      short = omega arith;
      room = rw (c.push-in-loop-left.ensures, length-append {A = Conn}) (omega arith);
      on = next-on edge start next k away;
      nearest = next-nearest edge start next k away;
      ways = rw c.push-in-loop-left.ensures (completes-more edge start c.args.last at next k c.loop-left.cycle near c.step-at.ensures.target away least ways);
    }

pub returns : goal.returns
returns c =
    let edge = leads c.args.edges.now in
    let start : Conn = c.args.start in
    let none : c.loop-left.left ≡ 0 = omega arith in
    let on = c.loop-left.invariant.on in
    let P : ℕ → Type 0 = λ n. IsAway edge start n on.0 in
    let Q : ℕ → Type 0 = λ n. Completes edge start c.args.last c.loop-left.at n c.loop-left.cycle in
    completes-none edge start c.args.last c.loop-left.at on.0 c.loop-left.cycle on.1 (subst P none on.2) (subst Q none c.loop-left.invariant.ways)
