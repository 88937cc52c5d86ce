-- The chain law: undoing the records of a slot's chain, from its head, one by one on the present row.
use Rattle.std.proofs.Common.{◌≡◌, ◌<◌, ◌≤◌, ◌+◌, ◌-◌, ℕ, zero, suc, Bool, true, false, List, [], ◌∷◌, length, refl, ap, sym, ◌∙◌, arith, Some, None, Option, subst, take, drop}
use Rattle.std.specs.Prelude.{IfSome, nat_lt}
use Rattle.std.proofs.lemmas.Bool.Decides.{nat_tests}
use Rattle.std.proofs.lemmas.List.{get_or-drop, get_or-take, length-drop, length-take}
use Rattle.std.proofs.lemmas.Option.{slice_get-get_or}
use Rattle.iso_history.specs.Piles.{Piled, Under}
use Rattle.iso_history.specs.Recorded.{LeadsTo}
use Rattle.iso_history.specs.Versions.{committed, first_record, head_record, present}
use Rattle.iso_history.specs.World.{Note, Version}
use Rattle.iso_record.specs.Undone.{Face, all_undone, columns_in, shown, undone}
use Rattle.iso_record.specs.declared.record.Change.{Change}
use Rattle.iso_record.specs.declared.record.Change.TheVariants.{Delete, Insert, Undone, Update}
use Rattle.iso_record.specs.declared.record.Record.{Record}
use Rattle.iso_rebuild.proofs.Rebuilds.{length-undone}
use Rattle.iso_rebuild.specs.Chains.{AllIn, IsChain}
use Rattle.iso_segment.specs.Pinned.{item_of, stretch}
use Rattle.iso_types.specs.declared.value.Rid.{Rid}
use Rattle.iso_types.specs.declared.value.TableId.{TableId}
use Rattle.iso_types.specs.declared.value.Value.{Value}
use Rattle.iso_chain.specs.Logs.{chain_of, no_record, record_at}
use Rattle.iso_chain.specs.Slots.{FaceStands}
use Rattle.iso_chain.proofs.Faces.{face-shows, kept-present, undone-face}
use Rattle.iso_chain.proofs.Records.{AllBack}

-- after k records the slot stands for all but its last k versions
pub chain-stands : (log : List Record) (vs : List Version) (f : Face) (k : ℕ) → AllBack log vs → FaceStands f vs → k ≤ length (chain_of log vs)
    → FaceStands (all_undone (take k (chain_of log vs)) f) (drop k vs)
chain-stands log vs f zero b s le = s
chain-stands log [] f (suc k) b s le = absurd (omega arith)
chain-stands log (v ∷ vs) f (suc k) b s le = go v.pending refl (chain-stands log vs (undone (record_at log v.number).change f) k b.1)
  where
    go : (p : Bool) → v.pending ≡ p
        → (FaceStands (undone (record_at log v.number).change f) vs → k ≤ length (chain_of log vs)
        → FaceStands (all_undone (take k (chain_of log vs)) (undone (record_at log v.number).change f)) (drop k vs))
        → FaceStands (all_undone (take (suc k) (chain_of log (v ∷ vs))) f) (drop k vs)
    go true p rest =
        let le2 : suc k ≤ length (record_at log v.number ∷ chain_of log vs) = rw p at le in
        rw p (rest (undone-face (record_at log v.number).change f v vs p (b.0 p).change s) (omega (arith, le2)))
    go false p rest = absurd (let z : suc k ≤ length {A = Record} [] = rw p at le in omega arith)

-- so it shows the content of each version in turn
pub chain-shows : (log : List Record) (vs : List Version) (f : Face) (k : ℕ) → AllBack log vs → FaceStands f vs → k ≤ length (chain_of log vs)
    → shown (all_undone (take k (chain_of log vs)) f) ≡ present (drop k vs)
chain-shows log vs f k b s le = face-shows _ (drop k vs) (chain-stands log vs f k b s le)

-- and after the first record `committed`
pub chain-committed : (log : List Record) (vs : List Version) (f : Face) → AllBack log vs → FaceStands f vs
    → shown (all_undone (chain_of log vs) f) ≡ committed vs
chain-committed log [] f b s = face-shows f [] s
chain-committed log (v ∷ vs) f b s = go v.pending refl (chain-committed log vs (undone (record_at log v.number).change f) b.1)
  where
    go : (p : Bool) → v.pending ≡ p
        → (FaceStands (undone (record_at log v.number).change f) vs
        → shown (all_undone (chain_of log vs) (undone (record_at log v.number).change f)) ≡ committed vs)
        → shown (all_undone (chain_of log (v ∷ vs)) f) ≡ committed (v ∷ vs)
    go true p rest = rw p (rest (undone-face (record_at log v.number).change f v vs p (b.0 p).change s))
    go false p rest = rw p (face-shows f (v ∷ vs) s)

-- an item of a stretch is the list's
pub stretch-item : (log : List Record) (lo hi k : ℕ) → lo ≤ k → k ≤ hi → hi < length log → item_of (stretch log lo hi) k ≡ Some (record_at log k)
stretch-item log lo hi k le ge lt =
    let t : nat_lt k lo ≡ false = grind (arith, nat_tests, le) in
    let within : k - lo < length (take (hi + 1 - lo) (drop lo log)) = simp (length-take, length-drop) (omega (arith, le, ge, lt)) in
    let same : lo + (k - lo) ≡ k = omega (arith, le) in
    rw t (slice_get-get_or (take (hi + 1 - lo) (drop lo log)) (k - lo) no_record within
    ∙ ap Some (get_or-take (hi + 1 - lo) (drop lo log) (k - lo) no_record (omega (arith, le, ge)) ∙ get_or-drop lo log (k - lo) no_record
    ∙ ap (record_at log) same))

-- what is pending is not older
abbrev pub Over : ℕ → List Version → Type 0
Over lo [] = Unit {0}
Over lo (v ∷ vs) = (v.pending ≡ true → lo ≤ v.number) × Over lo vs

-- nothing is pending without a first record
none-first : (vs : List Version) → first_record vs ≡ None → (lo : ℕ) → Over lo vs
none-first [] e lo = tt
none-first (v ∷ vs) e lo = go (first_record vs) refl v.pending refl e (none-first vs)
  where
    go : (o : Option ℕ) → first_record vs ≡ o → (p : Bool) → v.pending ≡ p → first_record (v ∷ vs) ≡ None → (first_record vs ≡ None → (lo : ℕ) → Over lo vs)
        → Over lo (v ∷ vs)
    go None f true p e rest = absurd (let z : Some v.number ≡ None = rw (f, p) at e in cc)
    go None f false p e rest = ((λ q. absurd (cc)), rest f lo)
    go (Some m) f p q e rest = absurd (let z : Some m ≡ None = rw f at e in cc)

-- the first record is that of a pending version
pub first-under : (k m : ℕ) (vs : List Version) → Under k vs → first_record vs ≡ Some m → m < k
first-under k m [] h e = absurd (cc)
first-under k m (v ∷ vs) h e = go (first_record vs) refl v.pending refl e (first-under k m vs h.1)
  where
    go : (o : Option ℕ) → first_record vs ≡ o → (p : Bool) → v.pending ≡ p → first_record (v ∷ vs) ≡ Some m → (first_record vs ≡ Some m → m < k) → m < k
    go None f true p e rest = let z : Some v.number ≡ Some m = rw (f, p) at e in let same : v.number ≡ m = cc in let lt : v.number < k = h.0 p in
        omega (arith, same, lt)
    go None f false p e rest = absurd (let z : None ≡ Some m = rw (f, p) at e in cc)
    go (Some x) f p q e rest = rest (f ∙ (rw f at e))

-- the first record is the least
pub first-over : (notes : List Note) (t : TableId) (r : Rid) (vs : List Version) (lo : ℕ) → Piled notes t r vs → first_record vs ≡ Some lo → Over lo vs
first-over notes t r [] lo h e = tt
first-over notes t r (v ∷ vs) lo h e = go (first_record vs) refl e (first-over notes t r vs lo h.2)
  where
    go : (o : Option ℕ) → first_record vs ≡ o → first_record (v ∷ vs) ≡ Some lo → (first_record vs ≡ Some lo → Over lo vs) → Over lo (v ∷ vs)
    go None f e rest = ((λ p. let z : Some v.number ≡ Some lo = rw (f, p) at e in let same : v.number ≡ lo = cc in omega (arith, same)), none-first vs f lo)
    go (Some m) f e rest =
        let z : Some m ≡ Some lo = rw f at e in
        let is : first_record vs ≡ Some lo = f ∙ z in
        ((λ p. let lt : lo < v.number = first-under v.number lo vs (h.0 p).under is in omega (arith, lt)), rest is)

-- the head of what is under is older
head-under : (k : ℕ) (vs : List Version) → Under k vs → IfSome (head_record vs) (λ j. j < k)
head-under k [] h = tt
head-under k (v ∷ vs) h = go v.pending refl
  where
    go : (p : Bool) → v.pending ≡ p → IfSome (head_record (v ∷ vs)) (λ j. j < k)
    go true p = rw p (h.0 p)
    go false p = rw p tt

-- the records of the chain follow one another in the pin
pub chain-is : (notes : List Note) (t : TableId) (r : Rid) (log : List Record) (lo hi : ℕ) (vs : List Version) → hi < length log → AllBack log vs
    → Piled notes t r vs
    → Over lo vs → Under (hi + 1) vs → IsChain (stretch log lo hi) (head_record vs) (chain_of log vs)
chain-is notes t r log lo hi [] lt b h o u = refl
chain-is notes t r log lo hi (v ∷ vs) lt b h o u = go v.pending refl (chain-is notes t r log lo hi vs lt b.1 h.2 o.1 u.1)
  where
    go : (p : Bool) → v.pending ≡ p → IsChain (stretch log lo hi) (head_record vs) (chain_of log vs)
        → IsChain (stretch log lo hi) (head_record (v ∷ vs)) (chain_of log (v ∷ vs))
    go false p rest = rw p refl
    go true p rest =
        let prev = (b.0 p).prev_row in
        let small : v.number < hi + 1 = u.0 p in
        rw p (
          v.number,
          refl,
          stretch-item log lo hi v.number (o.0 p) (omega (arith, small)) lt,
          subst (λ (z : Option ℕ). IfSome z (λ j. j < v.number)) (sym prev) (head-under v.number vs (h.0 p).under),
          subst (λ (z : Option ℕ). IsChain (stretch log lo hi) z (chain_of log vs)) (sym prev) rest,
        )

-- their columns are in the row
pub chain-columns : (log : List Record) (vs : List Version) (f : Face) → AllBack log vs → FaceStands f vs → AllIn (length f.row) (chain_of log vs)
chain-columns log [] f b s = refl
chain-columns log (v ∷ vs) f b s = go v.pending refl (chain-columns log vs (undone (record_at log v.number).change f) b.1)
  where
    this : (change : Change) → LeadsTo change vs v.row → columns_in (length f.row) change ≡ true
    this Insert leads = refl
    this (Update olds) (new, is, old, columns) =
        let row : f.row ≡ new = subst (λ (o : Option (List Value)). IfSome o (λ x. f.row ≡ x)) (kept-present (v ∷ vs) new is) s.row in
        subst (λ (l : List Value). columns_in (length l) (Update olds) ≡ true) (sym row) columns
    this Delete leads = refl
    this (Undone n) leads = refl

    go : (p : Bool) → v.pending ≡ p
        → (FaceStands (undone (record_at log v.number).change f) vs → AllIn (length (undone (record_at log v.number).change f).row) (chain_of log vs))
        → AllIn (length f.row) (chain_of log (v ∷ vs))
    go false p rest = rw p refl
    go true p rest = rw p (
        let back = b.0 p in
        let now : columns_in (length f.row) (record_at log v.number).change ≡ true = this (record_at log v.number).change back.change in
        let below : AllIn (length f.row) (chain_of log vs) = subst (λ (n : ℕ). AllIn n (chain_of log vs)) (length-undone (record_at log v.number).change f)
        (rest (undone-face (record_at log v.number).change f v vs p back.change s)) in
        rw (now, below) refl)
