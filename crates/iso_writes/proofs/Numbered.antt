-- The indexes of a head one after the other: what comes at one of them, and then at the others.
use Rattle.std.proofs.Common.{◌≡◌, ◌<◌, ◌+◌, ◌-◌, ℕ, suc, Bool, true, false, not, List, [], ◌∷◌, length, map, refl, ap, sym, ◌∙◌, arith, Option, if◌then◌else◌}
use Rattle.std.specs.Prelude.{count_by, filter}
use Rattle.iso_history.proofs.locks.Finds.{count-here, count-past, filter-here, filter-past}
use Rattle.iso_history.specs.Entries.{row_has}
use Rattle.iso_history.specs.Holds.{is_inherited}
use Rattle.iso_history.specs.Versions.{committed, is_changed_beside, present, versions, view}
use Rattle.iso_history.specs.World.{World}
use Rattle.iso_history.specs.Writes.{Written, judged_index, judged_indexes, judged_key, judged_log, judged_need, key_need, or_else, updates}
use Rattle.iso_history.specs.Writes.Written.{AtLimit, Blocks, Done, IsFull, Refuses}
use Rattle.iso_modes.specs.declared.Mode.TheVariants.{S}
use Rattle.iso_queue.specs.Locks.{is_covered}
use Rattle.iso_types.specs.Head.{indexes_of, key_in}
use Rattle.iso_types.specs.declared.head.Head.{Head}
use Rattle.iso_types.specs.declared.value.Conn.{Conn}
use Rattle.iso_types.specs.declared.value.IndexId.{IndexId}
use Rattle.iso_types.specs.declared.value.Name.{Name}
use Rattle.iso_types.specs.declared.value.Name.TheVariants.{Key}
use Rattle.iso_types.specs.declared.value.Rid.{Rid}
use Rattle.iso_types.specs.declared.value.TableId.{TableId}
use Rattle.iso_types.specs.declared.value.Value.{Value}
use Rattle.iso_writes.proofs.Firsts.{goes-on, stops-at}
use Rattle.iso_writes.specs.Ordered.{index_numbered, is_of, needed, numbered, of_table}
use Rattle.iso_writes.specs.Walk.{is_done}

or-done : (a : Written) → or_else a Done ≡ a
or-done Done = refl
or-done IsFull = refl
or-done (Refuses code) = refl
or-done (Blocks n m) = refl
or-done AtLimit = refl

module _ (head : Head) (w : World) (c : Conn) (t : TableId) where
  module _ (r : Rid) (old : Option (List Value)) (row : List Value) where
    -- what comes at those of these indexes that are the table's, and at all
    abbrev come : List IndexId → Written
    come is = judged_indexes head w c t r old row (of_table head t is)

    abbrev come_all : Written
    come_all = judged_indexes head w c t r old row (indexes_of head t)

    -- a key that is new to the row
    pub judged-new : (i : IndexId) (v : Value) (b : Bool) (x : Written) → v ≡ key_in head i row → b ≡ row_has head i v old → b ≡ false
        → x ≡ judged_key head w c t r i v → x ≡ judged_index head w c t r old row i
    judged-new i v b x is tested e judged =
        let gone : row_has head i (key_in head i row) old ≡ false = ap (λ (z : Value). row_has head i z old) (sym is) ∙ sym tested ∙ e in
        judged ∙ ap (λ (z : Value). judged_key head w c t r i z) is ∙ rw gone refl

    -- what comes at the first of some indexes, and then at the others
    index-first : (i : IndexId) (is : List IndexId) → come (i ∷ is) ≡ or_else (come (i ∷ [])) (come is)
    index-first i is = go (is_of head t i) refl
      where
        go : (b : Bool) → is_of head t i ≡ b → come (i ∷ is) ≡ or_else (come (i ∷ [])) (come is)
        go true e = rw e (ap (λ (x : Written). or_else x (come is)) (sym (or-done (judged_index head w c t r old row i))))
        go false e = rw e refl

    -- what comes at the indexes from this number on is what comes at all
    abbrev pub IsLeft : ℕ → Type 0
    IsLeft at = (n : ℕ) → at + n ≡ length head.indexes → come (numbered at n) ≡ come_all

    pub left-first : IsLeft 0
    left-first n e = let is : n ≡ length head.indexes = omega (arith, e) in
        ap (λ (k : ℕ). come (numbered 0 k)) is

    module _ (at : ℕ) (left : IsLeft at) (i : IndexId) (named : i ≡ index_numbered at) (x : Written)
        (judged : x ≡ come (i ∷ [])) (b : Bool) (tested : b ≡ is_done x) where
      split : (n : ℕ) → at + suc n ≡ length head.indexes → or_else x (come (numbered (at + 1) n)) ≡ come_all
      split n e =
          ap (λ (y : Written). or_else y (come (numbered (at + 1) n))) judged
          ∙ sym (index-first i (numbered (at + 1) n))
          ∙ ap (λ (z : IndexId). come (z ∷ numbered (at + 1) n)) named ∙ left (suc n) e

      -- the first that is in the way is what all come to
      pub stopped : at < length head.indexes → b ≡ false → x ≡ come_all
      stopped lt e =
          let n = length head.indexes - suc at in
          stops-at x _ (sym tested ∙ e) ∙ split n (omega (arith, lt))

      pub left-next : b ≡ true → IsLeft (at + 1)
      left-next e n f = sym (goes-on x _ (sym tested ∙ e)) ∙ split n (omega (arith, f))

    pub left-last : (at : ℕ) → IsLeft at → at ≡ length head.indexes → Done ≡ come_all
    left-last at left e = left 0 (omega (arith, e))

  module _ (row : List Value) where
    -- the need at those of these indexes that are the table's
    abbrev need_of : List IndexId → ℕ
    need_of is = needed head w c row (of_table head t is)

    abbrev not_covered : Name → Bool
    not_covered n = not (is_covered head w.holds c n S)

    abbrev key_name_of : IndexId → Name
    key_name_of i = Key i (key_in head i row)

    count-none : count_by not_covered [] ≡ 0
    count-none = refl

    need-more : (i : IndexId) (is : List IndexId) → needed head w c row (i ∷ is) ≡ needed head w c row (i ∷ []) + needed head w c row is
    need-more i is = go (is_inherited head w c row i) refl (is_covered head w.holds c (Key i (key_in head i row)) S) refl
      where
        go : (a : Bool) → is_inherited head w c row i ≡ a → (b : Bool) → is_covered head w.holds c (Key i (key_in head i row)) S ≡ b
            → needed head w c row (i ∷ is) ≡ needed head w c row (i ∷ []) + needed head w c row is
        go true e true f =
            let here = filter-here (is_inherited head w c row) i is e in
            let alone = filter-here (is_inherited head w c row) i [] e in
            let more = count-past not_covered (Key i (key_in head i row)) (map key_name_of (filter (is_inherited head w c row) is)) (ap not f) in
            let none = count-past not_covered (Key i (key_in head i row)) [] (ap not f) in
            let a = ap (λ (l : List IndexId). count_by not_covered (map key_name_of l)) here in
            let b = ap (λ (l : List IndexId). count_by not_covered (map key_name_of l)) alone in
            omega (arith, a, b, more, none, count-none)
        go true e false f =
            let here = filter-here (is_inherited head w c row) i is e in
            let alone = filter-here (is_inherited head w c row) i [] e in
            let more = count-here not_covered (Key i (key_in head i row)) (map key_name_of (filter (is_inherited head w c row) is)) (ap not f) in
            let none = count-here not_covered (Key i (key_in head i row)) [] (ap not f) in
            let a = ap (λ (l : List IndexId). count_by not_covered (map key_name_of l)) here in
            let b = ap (λ (l : List IndexId). count_by not_covered (map key_name_of l)) alone in
            omega (arith, a, b, more, none, count-none)
        go false e b f =
            let past = filter-past (is_inherited head w c row) i is e in
            let alone = filter-past (is_inherited head w c row) i [] e in
            let a = ap (λ (l : List IndexId). count_by not_covered (map key_name_of l)) past in
            let b = ap (λ (l : List IndexId). count_by not_covered (map key_name_of l)) alone in
            omega (arith, a, b, count-none)

    need-first : (i : IndexId) (is : List IndexId) → need_of (i ∷ is) ≡ need_of (i ∷ []) + need_of is
    need-first i is = go (is_of head t i) refl
      where
        go : (b : Bool) → is_of head t i ≡ b → need_of (i ∷ is) ≡ need_of (i ∷ []) + need_of is
        go true e = rw e (need-more i (of_table head t is))
        go false e = rw e (omega arith)

    -- the need that was counted, with that from this number on, is the need of all
    abbrev pub IsNeed : ℕ → ℕ → Type 0
    IsNeed count at = (n : ℕ) → at + n ≡ length head.indexes → count + need_of (numbered at n) ≡ key_need head w c t row

    pub need-start : IsNeed 0 0
    need-start n e =
        let is : n ≡ length head.indexes = omega (arith, e) in
        let all : need_of (numbered 0 n) ≡ key_need head w c t row =
        ap (λ (k : ℕ). need_of (numbered 0 k)) is in
        omega (arith, all)

    pub need-next : (count at : ℕ) → IsNeed count at → (i : IndexId) → i ≡ index_numbered at → (more : ℕ)
        → more ≡ need_of (i ∷ []) → IsNeed (count + more) (at + 1)
    need-next count at need i named more is n e =
        let all = need (suc n) (omega (arith, e)) in
        let this : need_of (numbered at (suc n)) ≡ need_of (index_numbered at ∷ []) + need_of (numbered (at + 1) n) =
        need-first (index_numbered at) (numbered (at + 1) n) in
        let here : more ≡ need_of (index_numbered at ∷ []) =
        is ∙ ap (λ (z : IndexId). need_of (z ∷ [])) named in
        omega (arith, all, this, here)

    pub need-last : (count at : ℕ) → IsNeed count at → at ≡ length head.indexes → count ≡ key_need head w c t row
    need-last count at need e =
        let all : count + 0 ≡ key_need head w c t row = need 0 (omega (arith, e)) in omega (arith, all)

-- who may change a row sees its present version: what comes of an update, told by that
pub update-is : (head : Head) (w : World) (c : Conn) (t : TableId) (r : Rid) (old : Option (List Value)) (row : List Value)
    → old ≡ present (versions w t r) → is_changed_beside w c t r ≡ false
    → or_else (judged_indexes head w c t r old row (indexes_of head t))
    (or_else (judged_need head w c (0 + key_need head w c t row)) (judged_log head w)) ≡ updates head w c t r row
update-is head w c t r old row is alone =
    let seen : old ≡ view w c t r = is ∙ own in
    let plain : 0 + key_need head w c t row ≡ key_need head w c t row = omega arith in
    ap (λ (o : Option (List Value)). by o (0 + key_need head w c t row)) seen ∙ ap (λ (n : ℕ). by (view w c t r) n) plain
  where
    by : Option (List Value) → ℕ → Written
    by o n = or_else (judged_indexes head w c t r o row (indexes_of head t)) (or_else (judged_need head w c n) (judged_log head w))

    own : present (versions w t r) ≡ view w c t r
    own = sym (ap (λ (b : Bool). if b then committed (versions w t r) else present (versions w t r)) alone)
