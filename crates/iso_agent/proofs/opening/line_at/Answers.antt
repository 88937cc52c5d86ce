use Rattle.std.proofs.Common.{◌≡◌, ◌<◌, ◌≤◌, ◌==◌, ◌/◌, ◌∙◌, ℕ, List, arith, drop, find, length, slice_index_or, subst, sym, take, true}
use Rattle.iso_agent.proofs.Rising.{back-half, back-half-rises, front-half, front-half-rises}
use Rattle.iso_agent.specs.Rising.{rises}
use Rattle.iso_script.specs.declared.script.Line.{Line}
use Rattle.iso_agent.proofs.opening.line_at.Goals as goal

pub loop-rest-preserved-then-back-number : goal.loop-rest-preserved-then-back-number
loop-rest-preserved-then-back-number c =
    let ls : List Line = c.loop-rest.rest.now in
    let k : ℕ = length ls / 2 in
    let m : ℕ = c.args.number in
    let d : Line = c.index-back-0.result in
    let back = c.split_at.ensures.back in
    let some : 1 ≤ length (drop k ls) =
    subst (λ (z : List Line). 1 ≤ length z) back (omega (arith, c.split_at.ensures.back_len, c.loop-rest-test.true)) in
    let le : (slice_index_or (drop k ls) 0 d).number ≤ m =
    subst (λ (z : List Line). (slice_index_or z 0 d).number ≤ m) back c.if-back-number.true in
    record {
      rises = subst (λ (z : List Line). rises z ≡ true) (sym back) (back-half-rises m d k ls some c.loop-rest.invariant.rises);
      same = subst (λ (z : List Line). find (λ y. y.number == m) z ≡ find (λ y. y.number == m) c.args.lines.now) (sym back)
          (back-half m d k ls some c.loop-rest.invariant.rises le ∙ c.loop-rest.invariant.same);
    }

pub loop-rest-preserved : goal.loop-rest-preserved
loop-rest-preserved c =
    let ls : List Line = c.loop-rest.rest.now in
    let k : ℕ = length ls / 2 in
    let m : ℕ = c.args.number in
    let d : Line = c.index-back-0.result in
    let back = c.split_at.ensures.back in
    let front = c.split_at.ensures.front in
    let some : 1 ≤ length (drop k ls) =
    subst (λ (z : List Line). 1 ≤ length z) back (omega (arith, c.split_at.ensures.back_len, c.loop-rest-test.true)) in
    let lt : m < (slice_index_or (drop k ls) 0 d).number =
    subst (λ (z : List Line). m < (slice_index_or z 0 d).number) back c.if-back-number.false in
    record {
      rises = subst (λ (z : List Line). rises z ≡ true) (sym front) (front-half-rises m d k ls some c.loop-rest.invariant.rises);
      same = subst (λ (z : List Line). find (λ y. y.number == m) z ≡ find (λ y. y.number == m) c.args.lines.now) (sym front)
          (front-half m d k ls some c.loop-rest.invariant.rises lt ∙ c.loop-rest.invariant.same);
    }
