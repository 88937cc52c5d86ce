-- Which versions an undo takes off.
use Rattle.std.proofs.Common.{◌≡◌, ◌≢◌, ◌<◌, ◌⊎◌, inl, inr, ℕ, Bool, true, false, ◌&&◌, List, [], ◌∷◌, refl, ap, sym, ◌∙◌, arith, Some, None, Option, subst}
use Rattle.std.specs.Prelude.{◌==◌}
use Rattle.std.proofs.lemmas.Bool.Decides.{nat_tests}
use Rattle.iso_history.specs.Piles.{AllPiled, NonePending, Piled, Under}
use Rattle.iso_history.specs.Recorded.{TakesTop, below}
use Rattle.iso_history.specs.Records.{note_of}
use Rattle.iso_history.specs.Versions.{first_record, head_record, taken_off, versions}
use Rattle.iso_history.specs.World.{Note, Version, World}
use Rattle.iso_types.specs.declared.value.Rid.{Rid}
use Rattle.iso_types.specs.declared.value.TableId.{TableId}

-- an undo of a younger record, and one of another slot's record, takes nothing off
taken-under : (n : ℕ) (vs : List Version) → Under n vs → taken_off n vs ≡ vs
taken-under n [] h = refl
taken-under n (v ∷ vs) h = go (v.pending && (v.number == n)) refl (taken-under n vs h.1)
  where
    go : (b : Bool) → (v.pending && (v.number == n)) ≡ b → taken_off n vs ≡ vs → taken_off n (v ∷ vs) ≡ v ∷ vs
    go false e ih = rw e (ap (λ (l : List Version). v ∷ l) ih)
    go true e ih =
        let p : v.pending ≡ true = grind arith in let q : v.number ≡ n = grind (arith, nat_tests) in
        let lt : v.number < n = h.0 p in absurd (omega (arith, lt, q))

pub taken-other : (notes : List Note) (t : TableId) (r : Rid) (n : ℕ) (vs : List Version) → Piled notes t r vs
    → ((note_of notes n).table ≡ t → (note_of notes n).rid ≡ r → ⊥) → taken_off n vs ≡ vs
taken-other notes t r n [] h ne = refl
taken-other notes t r n (v ∷ vs) h ne = go (v.pending && (v.number == n)) refl (taken-other notes t r n vs h.2 ne)
  where
    go : (b : Bool) → (v.pending && (v.number == n)) ≡ b → taken_off n vs ≡ vs → taken_off n (v ∷ vs) ≡ v ∷ vs
    go false e ih = rw e (ap (λ (l : List Version). v ∷ l) ih)
    go true e ih =
        let p : v.pending ≡ true = grind arith in let q : v.number ≡ n = grind (arith, nat_tests) in
        absurd (ne (subst (λ (k : ℕ). (note_of notes k).table ≡ t) q (h.0 p).table) (subst (λ (k : ℕ). (note_of notes k).rid ≡ r) q (h.0 p).rid))

-- the last version, where the undone record is the head
pub record Top (notes : List Note) (t : TableId) (r : Rid) (n : ℕ) (vs : List Version) : Type 0 where
  pub version : Version
  pub under : List Version
  pub is : vs ≡ version ∷ under
  pub number : version.number ≡ n
  pub pending : version.pending ≡ true
  pub taken : taken_off n vs ≡ under
  pub piled : Piled notes t r under

pub top : (notes : List Note) (t : TableId) (r : Rid) (n : ℕ) (vs : List Version) → Piled notes t r vs → head_record vs ≡ Some n → Top notes t r n vs
top notes t r n [] h e = absurd (cc)
top notes t r n (v ∷ vs) h e = go v.pending refl
  where
    go : (p : Bool) → v.pending ≡ p → Top notes t r n (v ∷ vs)
    go false p = absurd (let z : None ≡ Some n = rw p at e in cc)
    go true p =
        let z : Some v.number ≡ Some n = rw p at e in
        let same : v.number ≡ n = cc in
        let this : (v.pending && (v.number == n)) ≡ true = grind (arith, nat_tests, p, same) in
        record {
          version = v;
          under = vs;
          is = refl;
          number = same;
          pending = p;
          taken = rw this (taken-under n vs (subst (λ (k : ℕ). Under k vs) same (h.0 p).under));
          piled = h.2;
        }

-- so an undo takes last versions off
pub takes-top : (w : World) (n : ℕ) → AllPiled w → head_record (versions w (note_of w.records n).table (note_of w.records n).rid) ≡ Some n
    → (t : TableId) (r : Rid) → TakesTop n (versions w t r)
unfolding AllPiled
takes-top w n piled head t r = go (same t.0 (note_of w.records n).table.0) (same r.0 (note_of w.records n).rid.0)
  where
    same : (a b : ℕ) → (a ≡ b) ⊎ (a ≢ b)
    same a b = grind arith

    at-table : ℕ → TableId
    at-table k = record { 0 = k }

    at-rid : ℕ → Rid
    at-rid k = record { 0 = k }

    other : (((note_of w.records n).table ≡ t) → ((note_of w.records n).rid ≡ r) → ⊥) → TakesTop n (versions w t r)
    other ne = inl (taken-other w.records t r n (versions w t r) (piled t r) ne)

    this : (t.0 ≡ (note_of w.records n).table.0) → (r.0 ≡ (note_of w.records n).rid.0) → TakesTop n (versions w t r)
    this e f =
        let is : versions w (note_of w.records n).table (note_of w.records n).rid ≡ versions w t r = rw (e, f) refl in
        let found = top w.records t r n (versions w t r) (piled t r) (ap head_record (sym is) ∙ head) in
        inr (found.taken ∙ sym (ap below found.is))

    go : (t.0 ≡ (note_of w.records n).table.0) ⊎ (t.0 ≢ (note_of w.records n).table.0)
        → (r.0 ≡ (note_of w.records n).rid.0) ⊎ (r.0 ≢ (note_of w.records n).rid.0)
        → TakesTop n (versions w t r)
    go (inl e) (inl f) = this e f
    go (inr ne) f = other (λ x y. ne (ap (λ z. z.0) (sym x)))
    go (inl e) (inr ne) = other (λ x y. ne (ap (λ z. z.0) (sym y)))

-- where nothing is pending at the head nothing is pending at all
none-pending : (vs : List Version) → NonePending vs → first_record vs ≡ None
none-pending [] h = refl
none-pending (v ∷ vs) h = rw (none-pending vs h.1, h.0) refl

pub first-none : (notes : List Note) (t : TableId) (r : Rid) (vs : List Version) → Piled notes t r vs → head_record vs ≡ None → first_record vs ≡ None
first-none notes t r [] h e = refl
first-none notes t r (v ∷ vs) h e = go v.pending refl
  where
    go : (p : Bool) → v.pending ≡ p → first_record (v ∷ vs) ≡ None
    go true p = absurd (let z : Some v.number ≡ None = rw p at e in cc)
    go false p = none-pending (v ∷ vs) (p, h.1 p)

-- a slot with a head has a first, which is the first of all above it
pub first-some : (v : Version) (vs : List Version) (k : ℕ) → head_record vs ≡ Some k → first_record (v ∷ vs) ≡ first_record vs
first-some v [] k e = absurd (cc)
first-some v (x ∷ xs) k e = go (first_record xs) refl
  where
    go : (o : Option ℕ) → first_record xs ≡ o → first_record (v ∷ x ∷ xs) ≡ first_record (x ∷ xs)
    go None f = rw (f, e) refl
    go (Some m) f = rw f refl
