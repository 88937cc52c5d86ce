-- An Undo takes the last version of its slot off, and nothing else.
use Rattle.std.proofs.Common.{List, [], ◌∷◌, ◌≡◌, ◌≤◌, ◌<◌, ◌⊎◌, inl, inr, ℕ, Bool, true, false, refl, ap, sym, ◌∙◌, arith, Some, subst}
use Rattle.std.specs.Prelude.{◌==◌}
use Rattle.std.proofs.lemmas.Bool.Decides.{nat_tests}
use Rattle.iso_history.proofs.pending.Conns.{no-both}
use Rattle.iso_history.proofs.pending.Containing.{Each}
use Rattle.iso_history.proofs.pending.Left.{first-has, first-most}
use Rattle.iso_history.proofs.pending.Makers.{IfPending}
use Rattle.iso_history.proofs.pending.Pends.{pender-reads, pends-cons}
use Rattle.iso_history.proofs.pending.Slots.{versions-mapped, versions_at}
use Rattle.iso_history.proofs.pending.Stays.{readers-own, same-taken}
use Rattle.iso_history.specs.Facts.{IsSound}
use Rattle.iso_history.specs.Piles.{AllPiled, LeftPends, NonePending, Piled, Under, has, pends}
use Rattle.iso_history.specs.Records.{last_left, left, note_of}
use Rattle.iso_history.specs.Versions.{head_record, tables_by, taken_off, versions}
use Rattle.iso_history.specs.Versions.Change.{Takes}
use Rattle.iso_history.specs.World.{Version, World}
use Rattle.iso_types.specs.declared.head.Head.{Head}
use Rattle.iso_types.specs.declared.value.Conn.{Conn}
use Rattle.iso_types.specs.declared.value.Rid.{Rid}
use Rattle.iso_types.specs.declared.value.TableId.{TableId}

pends-less : (n u k : ℕ) (vs : List Version) → Under k vs → pends n u vs ≡ true → n < k
pends-less n u k [] h e = cc
pends-less n u k (v ∷ vs) h e = elim (pends-cons n u v vs e) [ inl p ↦ subst (λ (z : ℕ). z < k) p.1 (h.0 p.0) | inr q ↦ pends-less n u k vs h.1 q ]

pends-none : (n u : ℕ) (vs : List Version) → NonePending vs → pends n u vs ≡ true → ⊥
pends-none n u [] h e = cc
pends-none n u (v ∷ vs) h e = elim (pends-cons n u v vs e) [ inl p ↦ no-both p.0 h.0 | inr q ↦ pends-none n u vs h.1 q ]

-- what is under number n is not of record n
under-differs : (n : ℕ) (vs : List Version) → Under n vs → Each (IfPending (λ v. v.number ≡ n → ⊥)) vs
under-differs n [] h = tt
under-differs n (v ∷ vs) h = ((λ p q. let lt = h.0 p in omega (arith, lt)), under-differs n vs h.1)

-- the slot's last version is this record's, and pending
pub record IsTop (n : ℕ) (v : Version) (vs : List Version) : Type 0 where
  pub number : v.number ≡ n
  pub pending : v.pending ≡ true
  pub under : Under n vs

module _ (head : Head) (w : World) (s : IsSound head w) where
  top-go : (c : Conn) (u n : ℕ) (t : TableId) (r : Rid) (vs : List Version) → last_left w u ≡ Some n → w.unit c ≡ Some u → Piled w.records t r vs
      → Each (IfPending (λ v. w.unit c ≡ Some v.unit)) vs → pends n u vs ≡ true → (v : Version) × (ws : List Version) × (vs ≡ v ∷ ws) × IsTop n v ws
  top-go c u n t r [] first is p h e = absurd (no-both e refl)
  top-go c u n t r (v ∷ vs) first is p h e = go v.pending refl (pends-cons n u v vs e)
    where
      some-is : {x y : ℕ} → Some x ≡ Some y → x ≡ y
      some-is q = cc

      go : (b : Bool) → v.pending ≡ b → ((v.pending ≡ true) × (v.number ≡ n) × (v.unit ≡ u)) ⊎ (pends n u vs ≡ true)
          → (x : Version) × (ws : List Version) × (v ∷ vs ≡ x ∷ ws) × IsTop n x ws
      go false q (inl y) = absurd (no-both y.0 q)
      go false q (inr y) = absurd (pends-none n u vs (p.1 q) y)
      go true q (inl y) = (v, vs, refl, record { number = y.1; pending = q; under = subst (λ (z : ℕ). Under z vs) y.1 (p.0 q).under })
      go true q (inr y) =
          let same : v.unit ≡ u = some-is (sym (h.0 q) ∙ is) in
          let le : v.number ≤ n = first-most w.records u v.number n first (subst (λ (z : ℕ). has v.number (left w.records z) ≡ true) same (p.0 q).is_left) in
          let lt : n < v.number = pends-less n u v.number vs (p.0 q).under y in
          absurd (omega arith)

  -- the greatest record of a unit that is not undone is its slot's last version
  pub top-of : (c : Conn) (u n : ℕ) → w.unit c ≡ Some u → last_left w u ≡ Some n
      → (v : Version) × (ws : List Version) × (versions w (note_of w.records n).table (note_of w.records n).rid ≡ v ∷ ws) × IsTop n v ws
  unfolding LeftPends AllPiled
  top-of c u n is first =
      let t = (note_of w.records n).table in
      let r = (note_of w.records n).rid in
      let there : pends n u (versions w (note_of w.records n).table (note_of w.records n).rid) ≡ true = s.pending c u n is
      (first-has n (left w.records u) first) in
      top-go c u n (note_of w.records n).table (note_of w.records n).rid (versions w (note_of w.records n).table (note_of w.records n).rid) first is
      (s.piled (note_of w.records n).table (note_of w.records n).rid)
      (readers-own head w s c (note_of w.records n).table (note_of w.records n).rid
      (pender-reads head w s c u n (note_of w.records n).table (note_of w.records n).rid is there)) there

  -- its number is at the head of the slot
  pub head-of : (c : Conn) (u n : ℕ) → w.unit c ≡ Some u → last_left w u ≡ Some n → head_record
      (versions w (note_of w.records n).table (note_of w.records n).rid) ≡ Some n
  head-of c u n is first = let x = top-of c u n is first in ap head_record x.2 ∙ top x.0 x.1 x.3
    where
      top : (v : Version) (ws : List Version) → IsTop n v ws → head_record (v ∷ ws) ≡ Some n
      top v ws q = let p : v.pending ≡ true = q.pending in rw p (ap Some q.number)

  -- an Undo of it takes the last version off
  pub undo-top : (c : Conn) (u n : ℕ) → w.unit c ≡ Some u → last_left w u ≡ Some n
      → (v : Version) × (ws : List Version) × (versions w (note_of w.records n).table (note_of w.records n).rid ≡ v ∷ ws)
      × (versions_at (tables_by w u (Takes n)) (note_of w.records n).table (note_of w.records n).rid ≡ ws)
  undo-top c u n is first =
      let x = top-of c u n is first in (
        x.0,
        x.1,
        x.2,
        versions-mapped (taken_off n) refl w.tables (note_of w.records n).table (note_of w.records n).rid ∙ ap (taken_off n) x.2 ∙ top x.0 x.1
            x.3,
      )
    where
      top : (v : Version) (ws : List Version) → IsTop n v ws → taken_off n (v ∷ ws) ≡ ws
      top v ws q =
          let p : v.pending ≡ true = q.pending in
          let k : (v.number == n) ≡ true = grind (arith, nat_tests, q.number) in
          rw (p, k) (same-taken n ws (under-differs n ws q.under))

  -- and leaves each other slot
  pub undo-others : (u n : ℕ) (t : TableId) (r : Rid) → ((note_of w.records n).table ≡ t → (note_of w.records n).rid ≡ r → ⊥)
      → versions_at (tables_by w u (Takes n)) t r ≡ versions w t r
  unfolding AllPiled
  undo-others u n t r other = versions-mapped (taken_off n) refl w.tables t r ∙ same-taken n (versions w t r) (differs (versions w t r) (s.piled t r))
    where
      differs : (vs : List Version) → Piled w.records t r vs → Each (IfPending (λ v. v.number ≡ n → ⊥)) vs
      differs [] h = tt
      differs (v ∷ vs) h = (
        (λ p q. other (ap (λ z. (note_of w.records z).table) (sym q) ∙ (h.0 p).table)
            (ap (λ z. (note_of w.records z).rid) (sym q) ∙ (h.0 p).rid)),
        differs vs h.2,
      )
