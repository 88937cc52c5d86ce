use Rattle.std.proofs.Common.{◌≡◌, ℕ, suc, ◌-◌, ◌<◌, true, false, List, [], length, take, drop, ap, ◌∙◌, sym, subst, arith}
use Rattle.std.specs.List.{list_all, list_any}
use Rattle.std.specs.Prelude.{nat_lt}
use Rattle.std.proofs.lemmas.Bool.Decides.{nat_tests}
use Rattle.iso_key.proofs.Placed.{ordered-any}
use Rattle.iso_key.proofs.Rises.{rising-pages}
use Rattle.iso_key.proofs.Splits.{all-at}
use Rattle.iso_key.proofs.Taken.{before-lacks, behind-lacks, has-at, ordered-drop, removed-at, removed-lacks}
use Rattle.iso_key.specs.Cuts.{starts_behind}
use Rattle.iso_key.specs.Entries.{has_pair}
use Rattle.iso_key.specs.Pages.{entries, is_page}
use Rattle.iso_key.specs.Splits.{IsRising, IsSplit}
use Rattle.iso_key.specs.declared.cut.Cut.TheVariants.{After}
use Rattle.iso_types.specs.declared.value.Rid.{Rid}
use Rattle.iso_types.specs.declared.value.Value.{Value}
use Rattle.iso_key.proofs.index.take_from.Goals as goal

pub pages_before-next-requires : goal.pages_before-next-requires
pages_before-next-requires c =
    subst (λ (z : List (List (Value × Rid))). IsRising (starts_behind (After c.args.key.now c.args.rid)) z) (sym c.deref.ensures.value)
    (rising-pages (After c.args.key.now c.args.rid) c.args.pages.now.items c.requires.ordered c.requires.sized)

pub take_out-requires-clause-ordered : goal.take_out-requires-clause-ordered
take_out-requires-clause-ordered c = ordered-any c.args.pages.now.items (c.pages_before-next.result - 1) c.requires.ordered

pub take_out-requires-clause-sized : goal.take_out-requires-clause-sized
take_out-requires-clause-sized c =
    let w : c.pages_before-next.result < suc (length c.args.pages.now.items) = let v = c.pages_before-next.ensures.within in
    let m : length c.deref.result.now ≡ length c.args.pages.now.items = ap (λ (z : List (List (Value × Rid))). length z) c.deref.ensures.value in omega (arith, v, m) in
    all-at is_page c.args.pages.now.items (c.pages_before-next.result - 1) [] c.requires.sized (omega (arith, w, c.if-next-gt0.true))

pub returns-then-next-gt0-clause-answer : goal.returns-then-next-gt0-clause-answer
returns-then-next-gt0-clause-answer c =
    let p : Value × Rid = (c.args.key.now, c.args.rid) in
    let pages = c.args.pages.now.items in
    let next = c.pages_before-next.result in
    let split : IsSplit (starts_behind (After p.0 p.1)) pages next =
    subst (λ (z : List (List (Value × Rid))). IsSplit (starts_behind (After p.0 p.1)) z next) c.deref.ensures.value c.pages_before-next.ensures in
    let at = next - 1 in
    let e : next ≡ suc at = omega (arith, c.if-next-gt0.true) in
    let w = split.within in
    let l : at < length pages = omega (arith, w, c.if-next-gt0.true) in
    let before = before-lacks p pages at c.requires.ordered c.requires.sized l (subst (λ (n : ℕ). list_any (starts_behind (After p.0 p.1)) (take n pages) ≡ false) e split.before) in
    let behind = behind-lacks p (drop (suc at) pages) (ordered-drop pages (suc at) c.requires.ordered) (subst (λ (n : ℕ). list_all (starts_behind (After p.0 p.1)) (drop n pages) ≡ true) e split.behind) in
    c.take_out.ensures.answer ∙ sym (has-at p pages at l before behind)

pub returns-then-next-gt0-clause-pages : goal.returns-then-next-gt0-clause-pages
returns-then-next-gt0-clause-pages c =
    let p : Value × Rid = (c.args.key.now, c.args.rid) in
    let pages = c.args.pages.now.items in
    let next = c.pages_before-next.result in
    let split : IsSplit (starts_behind (After p.0 p.1)) pages next =
    subst (λ (z : List (List (Value × Rid))). IsSplit (starts_behind (After p.0 p.1)) z next) c.deref.ensures.value c.pages_before-next.ensures in
    let at = next - 1 in
    let e : next ≡ suc at = omega (arith, c.if-next-gt0.true) in
    let w = split.within in
    let l : at < length pages = omega (arith, w, c.if-next-gt0.true) in
    let before = before-lacks p pages at c.requires.ordered c.requires.sized l (subst (λ (n : ℕ). list_any (starts_behind (After p.0 p.1)) (take n pages) ≡ false) e split.before) in
    let behind = behind-lacks p (drop (suc at) pages) (ordered-drop pages (suc at) c.requires.ordered) (subst (λ (n : ℕ). list_all (starts_behind (After p.0 p.1)) (drop n pages) ≡ true) e split.behind) in
    c.take_out.ensures.pages ∙ sym (removed-at p pages at l c.requires.sized before behind)

pub returns-else-next-gt0-clause-answer : goal.returns-else-next-gt0-clause-answer
returns-else-next-gt0-clause-answer c =
    let p : Value × Rid = (c.args.key.now, c.args.rid) in
    let pages = c.args.pages.now.items in
    let next = c.pages_before-next.result in
    let split : IsSplit (starts_behind (After p.0 p.1)) pages next =
    subst (λ (z : List (List (Value × Rid))). IsSplit (starts_behind (After p.0 p.1)) z next) c.deref.ensures.value c.pages_before-next.ensures in
    let e : next ≡ 0 = omega (arith, c.if-next-gt0.false) in
    let h : has_pair (entries pages) p ≡ false = behind-lacks p pages c.requires.ordered (subst (λ (n : ℕ). list_all (starts_behind (After p.0 p.1)) (drop n pages) ≡ true) e split.behind) in
    let f : nat_lt 0 next ≡ false = grind (arith, nat_tests, e) in
    f ∙ sym h

pub returns-else-next-gt0-clause-pages : goal.returns-else-next-gt0-clause-pages
returns-else-next-gt0-clause-pages c =
    let p : Value × Rid = (c.args.key.now, c.args.rid) in
    let pages = c.args.pages.now.items in
    let next = c.pages_before-next.result in
    let split : IsSplit (starts_behind (After p.0 p.1)) pages next =
    subst (λ (z : List (List (Value × Rid))). IsSplit (starts_behind (After p.0 p.1)) z next) c.deref.ensures.value c.pages_before-next.ensures in
    let e : next ≡ 0 = omega (arith, c.if-next-gt0.false) in
    let h : has_pair (entries pages) p ≡ false = behind-lacks p pages c.requires.ordered (subst (λ (n : ℕ). list_all (starts_behind (After p.0 p.1)) (drop n pages) ≡ true) e split.behind) in
    sym (removed-lacks p pages c.requires.sized h)
