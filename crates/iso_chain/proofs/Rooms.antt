-- The log keeps room for the undoing of all that is in debt.
use Rattle.std.proofs.Common.{◌≡◌, ◌<◌, ◌≤◌, ◌+◌, ◌-◌, ℕ, List, length, refl, ap, arith, Some, None, Option}
use Rattle.std.specs.Option.{option_map_or}
use Rattle.std.proofs.lemmas.List.Sums.{sum_by-set}
use Rattle.iso_types.specs.declared.value.Conn.{Conn}
use Rattle.iso_uow.specs.Book.{debt_of, with_added, with_undone, with_work, work_at}
use Rattle.iso_uow.specs.declared.units.Work.{Work}

counted : Option Work → ℕ
counted o = option_map_or (λ w. w.count) o 0

-- another unit's count in the place of this one's
debt-set : (works : List (Option Work)) (c : Conn) (o : Option Work) → c.0 < length works
    → debt_of (with_work works c o) + counted (work_at works c) ≡ debt_of works + counted o
unfolding counted
debt-set works c o lt = sum_by-set (λ o. option_map_or (λ (w : Work). w.count) o 0) works c.0 o None lt

pub debt-added : (works : List (Option Work)) (c : Conn) (work : Work) (n : ℕ) → c.0 < length works → work_at works c ≡ Some work
    → debt_of (with_work works c (Some (with_added work n))) ≡ debt_of works + 1
unfolding counted
debt-added works c work n lt e =
    let k = debt-set works c (Some (with_added work n)) lt in
    let was : counted (work_at works c) ≡ work.count = ap counted e in
    let is : counted (Some (with_added work n)) ≡ work.count + 1 = refl in
    omega (arith, k, was, is)

pub debt-undone : (works : List (Option Work)) (c : Conn) (work : Work) (last : Option ℕ) → c.0 < length works → work_at works c ≡ Some work → 1 ≤ work.count
    → debt_of (with_work works c (Some (with_undone work last))) + 1 ≡ debt_of works
unfolding counted
debt-undone works c work last lt e some =
    let k = debt-set works c (Some (with_undone work last)) lt in
    let was : counted (work_at works c) ≡ work.count = ap counted e in
    let is : counted (Some (with_undone work last)) ≡ work.count - 1 = refl in
    omega (arith, k, was, is, some)

pub debt-none : (works : List (Option Work)) (c : Conn) → c.0 < length works → debt_of (with_work works c None) ≤ debt_of works
unfolding counted
debt-none works c lt =
    let k = debt-set works c None lt in
    let is : counted None ≡ 0 = refl in
    omega (arith, k, is)

-- a unit's count is part of the debt
pub count-debt : (works : List (Option Work)) (c : Conn) (work : Work) → c.0 < length works → work_at works c ≡ Some work → work.count ≤ debt_of works
unfolding counted
count-debt works c work lt e =
    let k = debt-set works c None lt in
    let was : counted (work_at works c) ≡ work.count = ap counted e in
    let is : counted None ≡ 0 = refl in
    omega (arith, k, was, is)
