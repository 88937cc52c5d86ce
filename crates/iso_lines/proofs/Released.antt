-- What a release leaves, and where names stand in a list.
use Rattle.iso_lines.specs.Locks.{counts_below, names_at}
use Rattle.iso_lines.specs.Registers.{AreIdle, IsLocks}
use Rattle.iso_lines.specs.Weighs.{IsBlank, IsWeighed, weighs}
use Rattle.iso_lines.specs.Locks.{is_at_hand}
use Rattle.iso_lines.specs.declared.desk.Desk.{Desk}
use Rattle.std.proofs.Common.{if◌then◌else◌, length, ◌++◌, ◌≡◌, ◌<◌, ℕ, zero, suc, Bool, true, false, not, ◌||◌, List, [], ◌∷◌, Some, is_some, filter, slice_get, slice_index_or, refl, sym, ap, subst, ◌∙◌, true≢false, arith}
use Rattle.std.specs.List.{IsDistinct, list_any}
use Rattle.std.specs.Map.{keys_of, lookup}
use Rattle.iso_queue.specs.Lines.{Line, is_touched, is_waiter}
use Rattle.iso_types.specs.declared.value.Conn.{Conn}
use Rattle.iso_types.specs.declared.value.Name.{Name}
use Rattle.iso_types.specs.declared.value.TableId.{TableId}
use Rattle.std.specs.Prelude.{count_by}
use Rattle.iso_lines.proofs.Parts.{kept, of_hold, of_waiter, or_none, touched_any}
use Rattle.iso_lines.proofs.Touched.{no_some, same_some}
use Rattle.iso_lines.specs.Named.{Named, key_of, line_of, nobody, released, same}

-- nothing is left out where nothing passes
all_stay_by : {X : Type 0} (p : X → Bool) (x : X) (xs : List X) (b : Bool) → p x ≡ b → list_any p (x ∷ xs) ≡ false → (list_any p xs ≡ false → filter (λ y. not (p y)) xs ≡ xs)
    → filter (λ y. not (p y)) (x ∷ xs) ≡ x ∷ xs
all_stay_by p x xs true e none ih = absurd (true≢false (sym (ap (λ b. b || list_any p xs) e) ∙ none))
all_stay_by p x xs false e none ih = kept (λ y. not (p y)) x xs (ap not e) ∙ ap (λ l. x ∷ l) (ih (sym (ap (λ b. b || list_any p xs) e) ∙ none))

pub all_stay : {X : Type 0} (p : X → Bool) (xs : List X) → list_any p xs ≡ false → filter (λ y. not (p y)) xs ≡ xs
all_stay p [] none = refl
all_stay p (x ∷ xs) none = all_stay_by p x xs (p x) refl none (all_stay p xs)

-- a release of what the connection does not hold changes nothing
pub released_untouched : (q : Line) (c : Conn) → is_touched q c ≡ false → released q c ≡ q
released_untouched q c e =
    let both = or_none (list_any (of_hold c) q.holders) (list_any (of_waiter c) q.waiters) (sym (touched_any q c) ∙ e) in
    ap (λ hs. record { holders = hs; waiters = q.waiters }) (all_stay (of_hold c) q.holders both.0)

-- a key that is found stands at a place
pub place_found : {X : Type 0} (t : Name → Bool) (es : List (Name × X)) → is_some (lookup t es) ≡ true → (i : ℕ) × (e : Name × X) × (slice_get es i ≡ Some e) × (t e.0 ≡ true)
place_found t [] h = absurd (true≢false (sym h))
place_found {X} t (e ∷ es) h = by (t e.0) refl (place_found t es)
  where
    by : (b : Bool) → t e.0 ≡ b → (is_some (lookup t es) ≡ true → (i : ℕ) × (f : Name × X) × (slice_get es i ≡ Some f) × (t f.0 ≡ true))
        → (i : ℕ) × (f : Name × X) × (slice_get (e ∷ es) i ≡ Some f) × (t f.0 ≡ true)
    by true k ih = (0, e, refl, k)
    by false k ih =
        let r = ih (sym (ap (λ b. is_some (if b then Some e.1 else lookup t es)) k) ∙ h) in
        (suc r.0, r.1, r.2, r.3)

-- within a list something stands
pub stands_within : {X : Type 0} (xs : List X) (i : ℕ) → i < length xs → (x : X) × (slice_get xs i ≡ Some x)
stands_within [] i lt = absurd (omega (arith, lt))
stands_within (x ∷ xs) zero lt = (x, refl)
stands_within (x ∷ xs) (suc i) lt = stands_within xs i (omega (arith, lt))

-- desks without a name, with one more
pub idle_push : (ds : List Desk) (d : Desk) → AreIdle ds → d.names.entries ≡ [] → IsBlank d.weights.items → AreIdle (ds ++ d ∷ [])
idle_push [] d idle none blank = (none, blank, tt)
idle_push (e ∷ ds) d idle none blank = (idle.0, idle.1, idle_push ds d idle.2 none blank)

pub idle_at : (ds : List Desk) (i : ℕ) (d : Desk) → AreIdle ds → slice_get ds i ≡ Some d → d.names.entries ≡ []
idle_at [] i d idle e = absurd (no_some e)
idle_at (x ∷ ds) zero d idle e = ap (λ (y : Desk). y.names.entries) (sym (same_some e)) ∙ idle.0
idle_at (x ∷ ds) (suc i) d idle e = idle_at ds i d idle.2 e

blank_at : (ds : List Desk) (i : ℕ) (d : Desk) → AreIdle ds → slice_get ds i ≡ Some d → IsBlank d.weights.items
blank_at [] i d idle e = absurd (no_some e)
blank_at (x ∷ ds) zero d idle e = subst (λ (y : Desk). IsBlank y.weights.items) (same_some e) idle.1
blank_at (x ∷ ds) (suc i) d idle e = blank_at ds i d idle.2 e

blank_weighed : (tables : List TableId) (lines : Named) (c : Conn) (es : List (Name × ℕ)) (ws : List ℕ) → es ≡ [] → IsBlank ws → IsWeighed tables lines c es ws
blank_weighed tables lines c es ws none blank = record {
  size = blank.size;
  weights = λ t within. blank.none t ∙ sym (ap (λ (fs : List (Name × ℕ)). count_by (λ e. weighs tables c t e.0 (line_of lines e.0)) fs) none);
}

idle_row : (ds : List Desk) → AreIdle ds → (k : ℕ) → length (slice_index_or (names_at ds) k []) ≡ 0
idle_row [] idle k = refl
idle_row (d ∷ ds) idle zero = ap (λ (l : List (Name × ℕ)). length l) idle.0
idle_row (d ∷ ds) idle (suc k) = idle_row ds idle.2 k

idle_count : (ds : List Desk) → AreIdle ds → (k : ℕ) → counts_below (names_at ds) k ≡ 0
idle_count ds idle zero = refl
idle_count ds idle (suc k) = omega (arith, idle_count ds idle k, idle_row ds idle k)

distinct_none : IsDistinct same []
unfolding IsDistinct
distinct_none = tt

-- where nobody has a name, and each line is empty
pub seated-none : (tables : List TableId) (lines : Named) (ds : List Desk) → length ds ≡ 32 → AreIdle ds → ((n : Name) → line_of lines n ≡ nobody) → IsLocks lines ds 0 tables
seated-none tables lines ds size idle none = record {
  size = size;
  seated = λ c d g. record {
    touched = λ n. ap (λ es. is_some (key_of es n)) (idle_at ds c d idle g) ∙ ap (λ l. is_touched l (record { 0 = c })) (sym (none n));
    at_hand = λ n h. absurd (true≢false (sym h ∙ ap (is_at_hand (record { 0 = c })) (none n)));
    waiting = λ n h. absurd (true≢false (sym h ∙ ap (λ (l : Line). is_waiter l.waiters (record { 0 = c })) (none n)));
  };
  unique = λ c d g. subst (λ (es : List (Name × ℕ)). IsDistinct same (keys_of es)) (sym (idle_at ds c d idle g)) distinct_none;
  weighed = λ c d g. blank_weighed tables lines (record { 0 = c }) d.names.entries d.weights.items (idle_at ds c d idle g) (blank_at ds c d idle g);
  beyond = λ c le n. ap (λ l. is_touched l (record { 0 = c })) (none n);
  all = sym (idle_count ds idle 32);
}
