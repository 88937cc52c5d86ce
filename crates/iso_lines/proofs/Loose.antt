-- Which lines a connection must have at hand after a call.
use Rattle.std.proofs.Common.{◌≡◌, ◌⊎◌, Bool, true, false, not, ◌&&◌, ◌||◌, List, [], ◌∷◌, Option, None, Some, filter, map, refl, sym, ap, ◌∙◌, true≢false, inl, inr, if◌then◌else◌}
use Rattle.std.proofs.lemmas.Cmp.{nat_eq_equiv}
use Rattle.std.specs.List.{list_any}
use Rattle.std.specs.Option.{option_map_or}
use Rattle.std.specs.Prelude.{find}
use Rattle.iso_modes.specs.Terms.{is_brief, is_fresh, is_kept}
use Rattle.iso_modes.specs.declared.Mode.{Mode}
use Rattle.iso_modes.specs.declared.Term.{Term}
use Rattle.iso_queue.specs.Lines.{Line, asked, granted, has_edge, is_granted, is_holder, queued, raised, settled, settled_hold, taken_in, unheld, unqueued, wait_for, waiter_of}
use Rattle.iso_queue.specs.declared.types.Hold.{Hold}
use Rattle.iso_queue.specs.declared.types.Waiter.{Waiter}
use Rattle.iso_types.specs.Ids.{conn_eq}
use Rattle.iso_types.specs.declared.value.Conn.{Conn}
use Rattle.iso_lines.proofs.Parts.{gone, kept}
use Rattle.iso_lines.proofs.Touched.{no_some, same_some}
use Rattle.iso_lines.specs.Locks.{has_loose}
use Rattle.iso_lines.specs.Locks.{is_at_hand, is_loose_hold, is_loose_wait}
use Rattle.iso_lines.specs.Named.{changed}
use Rattle.iso_lines.specs.declared.lines.Change.{Change}

pub or_first : (a b : Bool) → a ≡ true → (a || b) ≡ true
or_first a b e = λ j. e j || b

pub or_second : (a b : Bool) → b ≡ true → (a || b) ≡ true
or_second true b e = refl
or_second false b e = e

or_cases : (a b : Bool) → (a || b) ≡ true → (a ≡ true) ⊎ (b ≡ true)
or_cases true b e = inl refl
or_cases false b e = inr e

-- one of what is left is one of all
any_left_by : {X : Type 0} (p r : X → Bool) (x : X) (xs : List X) (b : Bool) → r x ≡ b → (list_any p (filter r xs) ≡ true → list_any p xs ≡ true)
    → list_any p (filter r (x ∷ xs)) ≡ true → list_any p (x ∷ xs) ≡ true
any_left_by p r x xs true e ih h =
    elim (or_cases (p x) (list_any p (filter r xs)) (sym (ap (list_any p) (kept r x xs e)) ∙ h)) [
      | inl f ↦ or_first (p x) (list_any p xs) f
      | inr f ↦ or_second (p x) (list_any p xs) (ih f)
    ]
any_left_by p r x xs false e ih h = or_second (p x) (list_any p xs) (ih (sym (ap (list_any p) (gone r x xs e)) ∙ h))

pub any_left : {X : Type 0} (p r : X → Bool) (xs : List X) → list_any p (filter r xs) ≡ true → list_any p xs ≡ true
any_left p r [] h = h
any_left p r (x ∷ xs) h = any_left_by p r x xs (r x) refl (any_left p r xs) h

-- a raised hold is loose only where it was
raised_loose : (d : Conn) (x h : Hold) (t : Term) → h.term ≡ t → is_loose_hold d (raised x h) ≡ true → is_loose_hold d h ≡ true
raised_loose d x h Term.Kept f e = absurd (no_and (conn_eq h.conn d) (sym (λ j. conn_eq h.conn d && not (is_kept (if is_kept (f j) then Term.Kept else x.term))) ∙ e))
  where
    no_and : (b : Bool) → (b && false) ≡ true → ⊥
    no_and true g = true≢false (sym g)
    no_and false g = true≢false (sym g)
raised_loose d x h Term.Fresh f e = (λ j. conn_eq h.conn d && not (is_kept (f j))) ∙ fst (conn_eq h.conn d) (not (is_kept (raised x h).term)) e
  where
    fst : (a b : Bool) → (a && b) ≡ true → (a && true) ≡ true
    fst true b g = refl
    fst false b g = g
raised_loose d x h Term.Brief f e = (λ j. conn_eq h.conn d && not (is_kept (f j))) ∙ fst (conn_eq h.conn d) (not (is_kept (raised x h).term)) e
  where
    fst : (a b : Bool) → (a && b) ≡ true → (a && true) ≡ true
    fst true b g = refl
    fst false b g = g

granted_by : (d : Conn) (x h : Hold) (hs rest : List Hold) (b : Bool) → (list_any (is_loose_hold d) rest ≡ true → (is_loose_hold d x ≡ true) ⊎ (list_any (is_loose_hold d) hs ≡ true))
    → list_any (is_loose_hold d) (if b then raised x h ∷ hs else h ∷ rest) ≡ true → (is_loose_hold d x ≡ true) ⊎ (list_any (is_loose_hold d) (h ∷ hs) ≡ true)
granted_by d x h hs rest true ih e =
    elim (or_cases (is_loose_hold d (raised x h)) (list_any (is_loose_hold d) hs) e) [
      | inl f ↦ inr (or_first (is_loose_hold d h) (list_any (is_loose_hold d) hs) (raised_loose d x h h.term refl f))
      | inr f ↦ inr (or_second (is_loose_hold d h) (list_any (is_loose_hold d) hs) f)
    ]
granted_by d x h hs rest false ih e =
    elim (or_cases (is_loose_hold d h) (list_any (is_loose_hold d) rest) e) [
      | inl f ↦ inr (or_first (is_loose_hold d h) (list_any (is_loose_hold d) hs) f)
      | inr f ↦ elim (ih f) [ inl g ↦ inl g | inr g ↦ inr (or_second (is_loose_hold d h) (list_any (is_loose_hold d) hs) g) ]
    ]

-- a grant makes the granted hold loose at most
granted_loose : (d : Conn) (hs : List Hold) (x : Hold) → list_any (is_loose_hold d) (granted hs x) ≡ true → (is_loose_hold d x ≡ true) ⊎ (list_any (is_loose_hold d) hs ≡ true)
granted_loose d [] x e = or_cases (is_loose_hold d x) false e
granted_loose d (h ∷ hs) x e = granted_by d x h hs (granted hs x) (conn_eq h.conn x.conn) (granted_loose d hs x) e

queued_by : (w : Waiter → Bool) (x y : Waiter) (ws rest : List Waiter) (b : Bool) → (list_any w rest ≡ true → (w x ≡ true) ⊎ (list_any w ws ≡ true))
    → list_any w (if b then x ∷ y ∷ ws else y ∷ rest) ≡ true → (w x ≡ true) ⊎ (list_any w (y ∷ ws) ≡ true)
queued_by w x y ws rest true ih e = or_cases (w x) (list_any w (y ∷ ws)) e
queued_by w x y ws rest false ih e =
    elim (or_cases (w y) (list_any w rest) e) [
      | inl f ↦ inr (or_first (w y) (list_any w ws) f)
      | inr f ↦ elim (ih f) [ inl g ↦ inl g | inr g ↦ inr (or_second (w y) (list_any w ws) g) ]
    ]

-- a wait is one of the queue
queued_loose : (w : Waiter → Bool) (hs : List Hold) (x : Waiter) (ws : List Waiter) → list_any w (queued hs x ws) ≡ true → (w x ≡ true) ⊎ (list_any w ws ≡ true)
queued_loose w hs x [] e = or_cases (w x) false e
queued_loose w hs x (y ∷ ws) e = queued_by w x y ws (queued hs x ws) (is_holder hs x.conn && not (is_holder hs y.conn)) (queued_loose w hs x ws) e

asked_by : (q : Line) (c : Conn) (m : Mode) (t : Term) (d : Conn) (b : Bool)
    → is_at_hand d (if b then record { holders = granted q.holders (record { conn = c; mode = m; term = t }); waiters = q.waiters }
    else record { holders = q.holders; waiters = queued q.holders (wait_for q.holders c m t) q.waiters }) ≡ true
    → ((conn_eq c d && not (is_kept t)) ≡ true) ⊎ (is_at_hand d q ≡ true)
asked_by q c m t d true e =
    elim (or_cases (list_any (is_loose_hold d) (granted q.holders (record { conn = c; mode = m; term = t }))) (list_any (is_loose_wait d) q.waiters) e) [
      | inl f ↦ elim (granted_loose d q.holders (record { conn = c; mode = m; term = t }) f) [ inl g ↦ inl g | inr g ↦ inr (or_first (has_loose d q) (list_any (is_loose_wait d) q.waiters) g) ]
      | inr f ↦ inr (or_second (has_loose d q) (list_any (is_loose_wait d) q.waiters) f)
    ]
asked_by q c m t d false e =
    elim (or_cases (has_loose d q) (list_any (is_loose_wait d) (queued q.holders (wait_for q.holders c m t) q.waiters)) e) [
      | inl f ↦ inr (or_first (has_loose d q) (list_any (is_loose_wait d) q.waiters) f)
      | inr f ↦ elim (queued_loose (is_loose_wait d) q.holders (wait_for q.holders c m t) q.waiters f) [ inl g ↦ inl g | inr g ↦ inr (or_second (has_loose d q) (list_any (is_loose_wait d) q.waiters) g) ]
    ]

-- a request asks for one more line at hand at most
pub asked_at_hand : (q : Line) (c : Conn) (m : Mode) (t : Term) (d : Conn) → is_at_hand d (asked q c m t) ≡ true → ((conn_eq c d && not (is_kept t)) ≡ true) ⊎ (is_at_hand d q ≡ true)
asked_at_hand q c m t d e = asked_by q c m t d (is_granted q c m) e

settled_by : (d : Conn) (h : Hold) (b : Bool) → is_loose_hold d (if b then record h { term = Term.Kept } else h) ≡ true → is_loose_hold d h ≡ true
settled_by d h true e = absurd (no_and (conn_eq h.conn d) e)
  where
    no_and : (b : Bool) → (b && false) ≡ true → ⊥
    no_and true g = true≢false (sym g)
    no_and false g = true≢false (sym g)
settled_by d h false e = e

map_loose : (c d : Conn) (s : Bool) (hs : List Hold) → list_any (is_loose_hold d) (map (settled_hold c s) hs) ≡ true → list_any (is_loose_hold d) hs ≡ true
map_loose c d s [] e = e
map_loose c d s (h ∷ hs) e =
    elim (or_cases (is_loose_hold d (settled_hold c s h)) (list_any (is_loose_hold d) (map (settled_hold c s) hs)) e) [
      | inl f ↦ or_first (is_loose_hold d h) (list_any (is_loose_hold d) hs) (settled_by d h (conn_eq h.conn c && (is_fresh h.term && not s)) f)
      | inr f ↦ or_second (is_loose_hold d h) (list_any (is_loose_hold d) hs) (map_loose c d s hs f)
    ]

found_any : (w t : Waiter → Bool) (ws : List Waiter) (x : Waiter) → find t ws ≡ Some x → w x ≡ true → list_any w ws ≡ true
found_any w t [] x e f = absurd (no_some e)
found_any w t (y ∷ ws) x e f = by (t y) refl (found_any w t ws x)
  where
    by : (b : Bool) → t y ≡ b → (find t ws ≡ Some x → w x ≡ true → list_any w ws ≡ true) → list_any w (y ∷ ws) ≡ true
    by true g ih = or_first (w y) (list_any w ws) (ap w (same_some (sym (ap (λ b. if b then Some y else find t ws) g) ∙ e)) ∙ f)
    by false g ih = or_second (w y) (list_any w ws) (ih (sym (ap (λ b. if b then Some y else find t ws) g) ∙ e) f)

found_test : (t : Waiter → Bool) (ws : List Waiter) (x : Waiter) → find t ws ≡ Some x → t x ≡ true
found_test t [] x e = absurd (no_some e)
found_test t (y ∷ ws) x e = by (t y) refl (found_test t ws x)
  where
    by : (b : Bool) → t y ≡ b → (find t ws ≡ Some x → t x ≡ true) → t x ≡ true
    by true g ih = ap t (sym (same_some (sym (ap (λ b. if b then Some y else find t ws) g) ∙ e))) ∙ g
    by false g ih = ih (sym (ap (λ b. if b then Some y else find t ws) g) ∙ e)

claimed_by : (q : Line) (c d : Conn) (o : Option Waiter) → waiter_of q.waiters c ≡ o
    → is_at_hand d (option_map_or (λ x. if has_edge q.holders q.waiters x then q else taken_in q c x) o q) ≡ true → is_at_hand d q ≡ true
claimed_by q c d None f e = e
claimed_by q c d (Some x) f e = by (has_edge q.holders q.waiters x) e
  where
    by : (b : Bool) → is_at_hand d (if b then q else taken_in q c x) ≡ true → is_at_hand d q ≡ true
    by true g = g
    by false g =
        elim (or_cases (list_any (is_loose_hold d) (granted q.holders (record { conn = c; mode = x.target; term = x.term }))) (list_any (is_loose_wait d) (unqueued c q.waiters)) g) [
          | inl h ↦ elim (granted_loose d q.holders (record { conn = c; mode = x.target; term = x.term }) h) [
            | inl k ↦ or_second (has_loose d q) (list_any (is_loose_wait d) q.waiters) (found_any (is_loose_wait d) (λ y. conn_eq y.conn c) q.waiters x f
                (ap (λ b. b && not (is_kept x.term)) (nat_eq_equiv.congr x.conn.0 c.0 d.0 (found_test (λ y. conn_eq y.conn c) q.waiters x f)) ∙ k))
            | inr k ↦ or_first (has_loose d q) (list_any (is_loose_wait d) q.waiters) k
          ]
          | inr h ↦ or_second (has_loose d q) (list_any (is_loose_wait d) q.waiters) (any_left (is_loose_wait d) (λ y. not (conn_eq y.conn c)) q.waiters h)
        ]

-- a change asks for no line at hand that was not
pub changed_at_hand : (change : Change) (q : Line) (c d : Conn) → is_at_hand d (changed change c q) ≡ true → is_at_hand d q ≡ true
changed_at_hand Change.Release q c d e =
    elim (or_cases (list_any (is_loose_hold d) (unheld c q.holders)) (list_any (is_loose_wait d) q.waiters) e) [
      | inl f ↦ or_first (has_loose d q) (list_any (is_loose_wait d) q.waiters) (any_left (is_loose_hold d) (λ h. not (conn_eq h.conn c)) q.holders f)
      | inr f ↦ or_second (has_loose d q) (list_any (is_loose_wait d) q.waiters) f
    ]
changed_at_hand Change.Cancel q c d e =
    elim (or_cases (has_loose d q) (list_any (is_loose_wait d) (unqueued c q.waiters)) e) [
      | inl f ↦ or_first (has_loose d q) (list_any (is_loose_wait d) q.waiters) f
      | inr f ↦ or_second (has_loose d q) (list_any (is_loose_wait d) q.waiters) (any_left (is_loose_wait d) (λ y. not (conn_eq y.conn c)) q.waiters f)
    ]
changed_at_hand (Change.Settle s) q c d e =
    elim (or_cases (has_loose d (settled q c s)) (list_any (is_loose_wait d) q.waiters) e) [
      | inl f ↦ or_first (has_loose d q) (list_any (is_loose_wait d) q.waiters)
          (map_loose c d s q.holders (any_left (is_loose_hold d) (λ h. not (conn_eq h.conn c && is_brief h.term)) (map (settled_hold c s) q.holders) f))
      | inr f ↦ or_second (has_loose d q) (list_any (is_loose_wait d) q.waiters) f
    ]
changed_at_hand Change.Claim q c d e = claimed_by q c d (waiter_of q.waiters c) refl e

-- a request's own line is at hand, or was
pub own_request : (q : Line) (c : Conn) (m : Mode) (t : Term) (there : Bool) → (is_kept t || there) ≡ true → is_at_hand c (asked q c m t) ≡ true → (there ≡ true) ⊎ (is_at_hand c q ≡ true)
own_request q c m t there e h = elim (asked_at_hand q c m t c h) [ inl f ↦ inl (by (is_kept t) there e (part (conn_eq c c) (not (is_kept t)) f)) | inr f ↦ inr f ]
  where
    part : (a b : Bool) → (a && b) ≡ true → b ≡ true
    part true b g = g
    part false b g = absurd (true≢false (sym g))

    by : (k u : Bool) → (k || u) ≡ true → not k ≡ true → u ≡ true
    by true u g n = absurd (true≢false (sym n))
    by false u g n = g

-- and it asks for none of another connection
pub far_request : (q : Line) (c : Conn) (m : Mode) (t : Term) (d : Conn) → conn_eq c d ≡ false → is_at_hand d (asked q c m t) ≡ true → is_at_hand d q ≡ true
far_request q c m t d apart h = elim (asked_at_hand q c m t d h) [ inl f ↦ absurd (true≢false (sym f ∙ ap (λ b. b && not (is_kept t)) apart)) | inr f ↦ f ]
