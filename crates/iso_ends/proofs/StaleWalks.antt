-- Whether some index has a stale pair, index by index, and what follows where none has.
use Rattle.std.proofs.Common.{◌≡◌, ◌<◌, ◌≤◌, ◌+◌, ◌⊎◌, inl, inr, ℕ, zero, suc, Bool, true, false, not, ◌&&◌, List, [], ◌∷◌, find, length, map, refl, ap, sym, subst, arith, slice_get, Some, None, Option}
use Rattle.std.specs.List.{list_any, range_with_len}
use Rattle.std.specs.Option.{option_map_or}
use Rattle.std.specs.Prelude.{is_some}
use Rattle.std.proofs.lemmas.Bool.{both_ways}
use Rattle.std.proofs.lemmas.Bool.Decides.{nat_tests}
use Rattle.iso_ends.proofs.PurgeWalks.{place}
use Rattle.iso_ends.specs.Purges.{NoneStale, any_stale, is_stale, is_stale_at}
use Rattle.iso_history.proofs.phantoms.Ordered.{find-has, find-none}
use Rattle.iso_history.proofs.phantoms.RangeOthers.{index-there}
use Rattle.iso_history.specs.Entries.{entries_of, is_in_use, is_purgeable, is_purgeable_of, least_purgeable, purgeable_from}
use Rattle.iso_history.specs.Versions.{versions}
use Rattle.iso_history.specs.World.{World}
use Rattle.iso_types.specs.Head.{indexes, is_index, table_of_index}
use Rattle.iso_types.specs.declared.head.Head.{Head}
use Rattle.iso_types.specs.declared.value.IndexId.{IndexId}
use Rattle.iso_types.specs.declared.value.Name.TheVariants.{Key}
use Rattle.iso_types.specs.declared.value.Rid.{Rid}
use Rattle.iso_types.specs.declared.value.TableId.{TableId}
use Rattle.iso_types.specs.declared.value.Value.{Value}

-- the index has a stale pair
abbrev pub stale_in : Head → World → ℕ → Bool
stale_in head w k = is_some (find (is_stale_at head w (place k)) (entries_of w (place k)))

-- an index that the head does not have has none
pub none-stale : (head : Head) (w : World) (i : IndexId) (ps : List (Value × Rid)) → None ≡ slice_get head.indexes i.0
    → None ≡ find (is_stale_at head w i) ps
none-stale head w i [] e = refl
none-stale head w i (p ∷ ps) e = let absent = sym e in rw absent (none-stale head w i ps e)

from-all : (t : ℕ → Bool) (s n : ℕ) → ((k : ℕ) → s ≤ k → k < s + n → t k ≡ false) → list_any (λ (i : IndexId). t i.0) (map place (range_with_len s n)) ≡ false
from-all t s zero h = refl
from-all t s (suc n) h =
    let own = h s (omega arith) (omega arith) in
    rw own (from-all t (s + 1) n (λ k le lt. h k (omega (arith, le)) (omega (arith, lt))))

from-one : (t : ℕ → Bool) (s n k : ℕ) → s ≤ k → k < s + n → t k ≡ true → list_any (λ (i : IndexId). t i.0) (map place (range_with_len s n)) ≡ true
from-one t s zero k le lt e = absurd (omega (arith, le, lt))
from-one t s (suc n) k le lt e = go (λ past. from-one t (s + 1) n k past (omega (arith, lt)) e) (cases s k le) (t s) refl
  where
    cases : (a b : ℕ) → a ≤ b → (a ≡ b) ⊎ (a + 1 ≤ b)
    cases a b le = grind arith

    go : (s + 1 ≤ k → list_any (λ (i : IndexId). t i.0) (map place (range_with_len (s + 1) n)) ≡ true) → (s ≡ k) ⊎ (s + 1 ≤ k) → (b : Bool) → t s ≡ b
        → list_any (λ (i : IndexId). t i.0) (place s ∷ map place (range_with_len (s + 1) n)) ≡ true
    go later (inl same) b is = let own : t s ≡ true = subst (λ (z : ℕ). t z ≡ true) (sym same) e in rw own refl
    go later (inr past) true is = rw is refl
    go later (inr past) false is = rw is (later past)

pub fresh-next : (head : Head) (w : World) (k : ℕ) → ((j : ℕ) → j < k → stale_in head w j ≡ false) → stale_in head w k ≡ false
    → (j : ℕ) → j < k + 1 → stale_in head w j ≡ false
fresh-next head w k h e j lt = go (cases j k lt)
  where
    cases : (x y : ℕ) → x < y + 1 → (x ≡ y) ⊎ (x < y)
    cases x y le = grind arith

    go : (j ≡ k) ⊎ (j < k) → stale_in head w j ≡ false
    go (inl same) = subst (λ (z : ℕ). stale_in head w z ≡ false) (sym same) e
    go (inr less) = h j less

module _ (head : Head) (w : World) where
  pub stale-found : (k : ℕ) → k < length head.indexes → stale_in head w k ≡ true → true ≡ any_stale head w
  stale-found k lt e = sym (from-one (stale_in head w) 0 (length head.indexes) k (omega arith) (omega (arith, lt)) e)

  pub stale-none : ((k : ℕ) → k < length head.indexes → stale_in head w k ≡ false) → false ≡ any_stale head w
  stale-none h = sym (from-all (stale_in head w) 0 (length head.indexes) (λ k le lt. h k (omega (arith, lt))))

  -- ---- where no pair is stale

  some-stale : (k : ℕ) → k < length head.indexes → any_stale head w ≡ false → stale_in head w k ≡ false
  some-stale k lt none = go (stale_in head w k) refl
    where
      go : (b : Bool) → stale_in head w k ≡ b → b ≡ false
      go false e = refl
      go true e = absurd (both_ways (any_stale head w) none (sym (stale-found k lt e)))

  pub none-any : any_stale head w ≡ false → NoneStale head w
  none-any none i t p on has = go (find (is_stale_at head w i) (entries_of w i)) refl here
    where
      lt : i.0 < length head.indexes
      lt = let z : is_index head i ≡ true = index-there head i t on in grind (arith, nat_tests, z)

      here : is_some (find (is_stale_at head w i) (entries_of w i)) ≡ false
      here = some-stale i.0 lt none

      go : (o : Option (Value × Rid)) → find (is_stale_at head w i) (entries_of w i) ≡ o → is_some o ≡ false → is_stale head i p.0 (versions w t p.1) ≡ false
      go (Some q) e n = absurd (both_ways true n refl)
      go None e n = let z : is_stale_at head w i p ≡ false = find-none (is_stale_at head w i) (entries_of w i) p e has in rw on at z

  -- none is purgeable then
  not-purgeable : (i : IndexId) (t : Option TableId) (p : Value × Rid) → table_of_index head i ≡ t
      → ((u : TableId) → t ≡ Some u → is_stale head i p.0 (versions w u p.1) ≡ false) → option_map_or (is_purgeable_of head w i p) t false ≡ false
  not-purgeable i None p e h = refl
  not-purgeable i (Some u) p e h = let fresh : is_stale head i p.0 (versions w u p.1) ≡ false = h u refl in
      ap (λ (b : Bool). b && not (is_in_use w (Key i p.0))) fresh

  none-in : NoneStale head w → (i : IndexId) → find (is_purgeable head w i) (entries_of w i) ≡ None
  none-in free i = go (find (is_purgeable head w i) (entries_of w i)) refl
    where
      go : (o : Option (Value × Rid)) → find (is_purgeable head w i) (entries_of w i) ≡ o → o ≡ None
      go None e = refl
      go (Some p) e =
          let h = find-has (is_purgeable head w i) (entries_of w i) p e in
          absurd (both_ways (is_purgeable head w i p) (not-purgeable i (table_of_index head i) p refl (λ u on. free i u p on h.0)) h.1)

  none-from : NoneStale head w → (is : List IndexId) → purgeable_from head w is ≡ None
  none-from free [] = refl
  none-from free (i ∷ is) = let own = none-in free i in rw (own, purgeable_from) (none-from free is)

  pub fresh-none : NoneStale head w → least_purgeable head w ≡ None
  fresh-none free = none-from free (indexes head)
