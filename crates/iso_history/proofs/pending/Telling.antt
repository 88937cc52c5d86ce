-- What a history tells of a slot, and its versions.
use Rattle.std.proofs.Common.{List, [], ◌∷◌, ◌≡◌, ◌+◌, ℕ, Bool, true, false, not, ◌&&◌, refl, ap, sym, ◌∙◌, arith, Some, None, Option, subst, filter, if◌then◌else◌}
use Rattle.std.specs.Prelude.{◌==◌}
use Rattle.std.specs.Option.{option_map_or}
use Rattle.std.proofs.lemmas.Bool.Decides.{nat_tests}
use Rattle.iso_history.proofs.pending.Conns.{and-both, no-both}
use Rattle.iso_history.proofs.pending.Containing.{Each}
use Rattle.iso_history.proofs.pending.Makers.{IfPending}
use Rattle.iso_history.proofs.pending.Matches.{Matches, each-pending, filter-swap, find-filter, is_not_of, matches-apart, matches-filter, matches-first, matches-more, matches-own, pending_of}
use Rattle.iso_history.proofs.pending.Stays.{same-settled}
use Rattle.iso_history.specs.Piles.{NonePending, Piled}
use Rattle.iso_history.specs.Settled.{Made, Telling, change_told, commit_told, end_told, last_change, undo_told}
use Rattle.iso_history.specs.Versions.{committed, settled_by, taken_off}
use Rattle.iso_history.specs.World.{Note, Version, at_conn}
use Rattle.iso_types.specs.Ids.{conn_eq, rid_eq, table_eq}
use Rattle.iso_types.specs.declared.value.Conn.{Conn}
use Rattle.iso_types.specs.declared.value.Rid.{Rid}
use Rattle.iso_types.specs.declared.value.TableId.{TableId}
use Rattle.iso_types.specs.declared.value.Value.{Value}

-- the change is of this slot
abbrev pub is_at : TableId → Rid → Made → Bool
is_at t r m = table_eq m.table t && rid_eq m.rid r

-- what is told stands for the slot's versions: the numbers of records, the settled row, and the changes that pend
pub record TellsOf (unit : Conn → Option ℕ) (many : ℕ) (vs : List Version) (t : TableId) (r : Rid) (s : Telling) : Type 0 where
  pub count : s.count ≡ many
  pub row : s.row ≡ committed vs
  pub made : Matches unit (filter (is_at t r) s.made) (pending_of vs)

-- one more version
pub committed-cons : (v : Version) (vs : List Version) (b : Bool) → v.pending ≡ b → committed (v ∷ vs) ≡ (if b then committed vs else v.row)
committed-cons v vs b e = ap (λ z. if z then committed vs else v.row) e

pub pending-cons : (v : Version) (vs : List Version) (b : Bool) → v.pending ≡ b → pending_of (v ∷ vs) ≡ (if b then v ∷ pending_of vs else pending_of vs)
pending-cons v vs b e = ap (λ z. if z then v ∷ pending_of vs else pending_of vs) e

-- what is taken off was pending
committed-taken : (n : ℕ) (vs : List Version) → committed (taken_off n vs) ≡ committed vs
committed-taken n [] = refl
committed-taken n (v ∷ vs) = go (committed-taken n vs) v.pending refl (v.number == n) refl
  where
    taken-cons : (b : Bool) → (v.pending && (v.number == n)) ≡ b → taken_off n (v ∷ vs) ≡ (if not b then v ∷ taken_off n vs else taken_off n vs)
    taken-cons b e = ap (λ z. if not z then v ∷ taken_off n vs else taken_off n vs) e

    go : committed (taken_off n vs) ≡ committed vs → (a : Bool) → v.pending ≡ a → (b : Bool) → (v.number == n) ≡ b → committed (taken_off n (v ∷ vs)) ≡
        committed (v ∷ vs)
    go ih true a true b = ap committed (taken-cons true (and-both _ _ a b)) ∙ ih ∙ sym (committed-cons v vs true a)
    go ih true a false b = ap committed (taken-cons false (ap (λ z. z && (v.number == n)) a ∙ b)) ∙ committed-cons v (taken_off n vs) true a ∙ ih ∙
        sym (committed-cons v vs true a)
    go ih false a b e = ap committed (taken-cons false (ap (λ z. z && (v.number == n)) a)) ∙ committed-cons v (taken_off n vs) false a ∙
        sym (committed-cons v vs false a)

module _ {X : Type 0} where
  filter-and : (p q : X → Bool) (xs : List X) → filter p (filter (λ x. not (p x && q x)) xs) ≡ filter (λ x. not (q x)) (filter p xs)
  filter-and p q [] = refl
  filter-and p q (x ∷ xs) = go (filter-and p q xs) (p x) refl (q x) refl
    where
      go : filter p (filter (λ x. not (p x && q x)) xs) ≡ filter (λ x. not (q x)) (filter p xs) → (a : Bool) → p x ≡ a → (b : Bool) → q x ≡ b
          → filter p (filter (λ x. not (p x && q x)) (x ∷ xs)) ≡ filter (λ x. not (q x)) (filter p (x ∷ xs))
      go ih true a true b = rw (a, b) ih
      go ih true a false b = rw (a, b) (rw a (ap (λ z. x ∷ z) ih))
      go ih false a true b = rw a (rw a ih)
      go ih false a false b = rw a (rw a ih)

module _ (unit : Conn → Option ℕ) (many : ℕ) (vs : List Version) (t : TableId) (r : Rid) (s : Telling) where
  pub told-more : (unit2 : Conn → Option ℕ) → ((d : Conn) (u : ℕ) → unit d ≡ Some u → unit2 d ≡ Some u) → TellsOf unit many vs t r s → TellsOf unit2 many vs
      t r s
  told-more unit2 f h = record { count = h.count; row = h.row; made = matches-more unit unit2 f (filter (is_at t r) s.made) (pending_of vs) h.made }

  pub told-undo : (n : ℕ) → TellsOf unit many vs t r s → TellsOf unit (many + 1) (taken_off n vs) t r (undo_told s n)
  told-undo n h = record {
    count = ap (λ z. z + 1) h.count;
    row = h.row ∙ sym (committed-taken n vs);
    made = subst (λ (z : List Made). Matches unit z (pending_of (taken_off n vs))) (sym (filter-swap (is_at t r) (λ m. not (m.number == n)) s.made))
        (subst (λ (z : List Version). Matches unit (filter (λ m. not (m.number == n)) (filter (is_at t r) s.made)) z)
        (sym (filter-and (λ v. v.pending) (λ v. v.number == n) vs))
        (matches-filter unit (λ m. not (m.number == n)) (λ v. not (v.number == n)) (λ m v e. ap (λ z. not (z == n)) e) (filter (is_at t r) s.made)
        (pending_of vs) h.made));
  }

  -- a unit of which nothing is pending there ends
  pub told-end : (c : Conn) → Each (IfPending (λ v. unit c ≡ Some v.unit → ⊥)) vs → TellsOf unit many vs t r s
      → TellsOf (at_conn unit c None) many vs t r (end_told s c) × (last_change s c t r ≡ None)
  told-end c none h =
      let m = matches-apart unit c (filter (is_at t r) s.made) (pending_of vs) (each-pending (λ v. unit c ≡ Some v.unit → ⊥) vs none) h.made in (
        record {
          count = h.count;
          row = h.row;
          made = subst (λ (z : List Made). Matches (at_conn unit c None) z (pending_of vs)) (sym (filter-swap (is_at t r) (is_not_of c) s.made)) m.0;
        },
        find-filter (λ m. conn_eq m.conn c) (is_at t r) s.made ∙ m.1,
      )

  -- a new change of another slot
  pub told-beside : (c : Conn) (u : TableId) (q : Rid) (row : Option (List Value)) → (table_eq u t && rid_eq q r) ≡ false → TellsOf unit many vs t r s
      → TellsOf unit (many + 1) vs t r (change_told s c u q row)
  told-beside c u q row e h = record { count = ap (λ z. z + 1) h.count; row = h.row; made = rw e h.made }

  -- a new change of the slot
  pub told-new : (c : Conn) (u : TableId) (q : Rid) (row : Option (List Value)) (v : ℕ) → (table_eq u t && rid_eq q r) ≡ true → unit c ≡ Some v → TellsOf
      unit many vs t r s
      → TellsOf unit (many + 1) (record { unit = v; number = many; row = row; pending = true } ∷ vs) t r (change_told s c u q row)
  told-new c u q row v e is h = record { count = ap (λ z. z + 1) h.count; row = h.row; made = rw e (h.count, refl, is, h.made) }

  -- a Commit of a unit of which nothing is pending there
  pub told-commit_apart : (c : Conn) (u : ℕ) → unit c ≡ Some u → Each (IfPending (λ v. unit c ≡ Some v.unit → ⊥)) vs → TellsOf unit many vs t r s
      → TellsOf (at_conn unit c None) many (settled_by u vs) t r (commit_told t r s c)
  told-commit_apart c u is none h =
      let e = told-end c none h in
      let same : settled_by u vs ≡ vs = same-settled u vs (differs vs none) in
      record {
        count = h.count;
        row = ap (λ o. option_map_or (λ (m : Made). m.row) o s.row) e.1 ∙ h.row ∙ ap committed (sym same);
        made = subst (λ (z : List Version). Matches (at_conn unit c None) (filter (is_at t r) (end_told s c).made) (pending_of z)) (sym same) e.0.made;
      }
    where
      differs : (vs : List Version) → Each (IfPending (λ v. unit c ≡ Some v.unit → ⊥)) vs → Each (IfPending (λ v. v.unit ≡ u → ⊥)) vs
      differs [] h = tt
      differs (v ∷ vs) h = ((λ p q. h.0 p (is ∙ ap Some (sym q))), differs vs h.1)

-- where nothing is pending, anything holds of what is
none-each : (P : Version → Type 0) (vs : List Version) → NonePending vs → Each (IfPending P) vs
none-each P [] h = tt
none-each P (v ∷ vs) h = ((λ p. absurd (no-both p h.0)), none-each P vs h.1)

-- a Commit of the unit of which all is that is pending there
pub told-commit_own : (unit : Conn → Option ℕ) (many : ℕ) (vs : List Version) (t : TableId) (r : Rid) (s : Telling) (c : Conn) (u : ℕ) (notes : List Note)
    → ((d : Conn) (u : ℕ) → unit d ≡ Some u → unit c ≡ Some u → conn_eq d c ≡ true)
    → unit c ≡ Some u → Piled notes t r vs → Each (IfPending (λ v. unit c ≡ Some v.unit)) vs → TellsOf unit many vs t r s
    → TellsOf (at_conn unit c None) many (settled_by u vs) t r (commit_told t r s c)
told-commit_own unit many [] t r s c u notes apart is p own h = told-commit_apart unit many [] t r s c u is tt h
told-commit_own unit many (v ∷ ws) t r s c u notes apart is p own h = go v.pending refl
  where
    some-is : {x y : ℕ} → Some x ≡ Some y → x ≡ y
    some-is q = cc

    done : Version
    done = record v { pending = false }

    top : v.pending ≡ true → TellsOf (at_conn unit c None) many (settled_by u (v ∷ ws)) t r (commit_told t r s c)
    top q =
        let same : v.unit ≡ u = some-is (sym (own.0 q) ∙ is) in
        let k : (v.unit == u) ≡ true = grind (arith, nat_tests) in
        let vs_is : settled_by u (v ∷ ws) ≡ done ∷ [] = ap (λ z. if z then done ∷ [] else v ∷ settled_by u ws) (and-both _ _ q k) in
        let of_slot : Matches unit (filter (is_at t r) s.made) (v ∷ pending_of ws) = subst (Matches unit (filter (is_at t r) s.made))
        (pending-cons v ws true q) h.made in
        let first = matches-first unit c apart (filter (is_at t r) s.made) v (pending_of ws) (own.0 q) of_slot in
        let none : filter (is_not_of c) (filter (is_at t r) s.made) ≡ [] =
        matches-own unit c apart (filter (is_at t r) s.made) (v ∷ pending_of ws) (own.0 q, each-pending (λ v. unit c ≡ Some v.unit) ws own.1) of_slot in
        record {
          count = h.count;
          row = ap (λ o. option_map_or (λ (m : Made). m.row) o s.row) (find-filter (λ m. conn_eq m.conn c) (is_at t r) s.made ∙ first.1) ∙ first.2 ∙ ap
              committed (sym vs_is);
          made = subst (λ (z : List Version). Matches (at_conn unit c None) (filter (is_at t r) (end_told s c).made) (pending_of z)) (sym vs_is)
              (subst (λ (z : List Made). Matches (at_conn unit c None) z []) (sym (filter-swap (is_at t r) (is_not_of c) s.made ∙ none)) tt);
        }

    go : (b : Bool) → v.pending ≡ b → TellsOf (at_conn unit c None) many (settled_by u (v ∷ ws)) t r (commit_told t r s c)
    go true q = top q
    go false q = told-commit_apart unit many (v ∷ ws) t r s c u is ((λ z. absurd (no-both z q)), none-each (λ v. unit c ≡ Some v.unit → ⊥) ws (p.1 q)) h
