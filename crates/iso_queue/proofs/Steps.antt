-- The steps of the loops.
use Rattle.std.proofs.Common.{◌≡◌, ◌<◌, ◌≤◌, ◌+◌, ◌^◌, ℕ, Bool, true, false, not, ◌&&◌, List, [], ◌∷◌, ◌++◌, length, take, drop, get_or, refl, ap, sym, ◌∙◌, arith, append_assoc, add-one, drop-cons}
use Rattle.std.specs.List.{list_any, insert}
use Rattle.std.specs.Prelude.{if◌then◌else◌, slice_set}
use Rattle.std.proofs.lemmas.List.{set_split, take_more, take_all, drop_all}
use Rattle.std.proofs.lemmas.List.Sums.{length-filter, count_by-le-length}
use Rattle.iso_queue.specs.Lines.{bits_of, before, granted, is_holder, is_waiter, queued, raised, unqueued}
use Rattle.iso_queue.specs.declared.types.Hold.{Hold}
use Rattle.iso_queue.specs.declared.types.Waiter.{Waiter}
use Rattle.iso_types.specs.Ids.{conn_eq}
use Rattle.iso_types.specs.declared.value.Conn.{Conn}

pub bits_more : (test : Conn → Bool) (k : ℕ) → bits_of test (k + 1) ≡ bits_of test k + (if test (record { 0 = k }) then 2 ^ k else 0)
unfolding bits_of
bits_more test k = rw add-one refl

-- the item at a place stands first of the rest
pub drop_at : {X : Type 0} (xs : List X) (i : ℕ) (d : X) → i < length xs → drop i xs ≡ get_or xs i d ∷ drop (i + 1) xs
drop_at xs i d lt = rw (drop-cons xs i d lt, add-one) refl

any_first : {X : Type 0} (p : X → Bool) (x : X) (xs : List X) → p x ≡ true → list_any p (x ∷ xs) ≡ true
any_first p x xs e = rw e refl

any_rest : {X : Type 0} (p : X → Bool) (x : X) (xs : List X) → p x ≡ false → list_any p (x ∷ xs) ≡ list_any p xs
any_rest p x xs e = rw e refl

-- another connection's wait, seen from the place of a walk
abbrev pub stands_ahead : Conn → Conn → List Waiter → Bool
stands_ahead c d ws = list_any (λ w. conn_eq w.conn d) (before ws c)

before_cons : (c : Conn) (w : Waiter) (ws : List Waiter) → conn_eq w.conn c ≡ false → before (w ∷ ws) c ≡ w ∷ before ws c
before_cons c w ws e = rw e refl

ahead_found : (c d : Conn) (w : Waiter) (ws : List Waiter) → conn_eq w.conn c ≡ false → conn_eq w.conn d ≡ true → stands_ahead c d (w ∷ ws) ≡ true
ahead_found c d w ws e f = ap (list_any (λ x. conn_eq x.conn d)) (before_cons c w ws e) ∙ any_first (λ x. conn_eq x.conn d) w (before ws c) f

ahead_next : (c d : Conn) (w : Waiter) (ws : List Waiter) → conn_eq w.conn c ≡ false → conn_eq w.conn d ≡ false → stands_ahead c d (w ∷ ws) ≡ stands_ahead c d ws
ahead_next c d w ws e f = ap (list_any (λ x. conn_eq x.conn d)) (before_cons c w ws e) ∙ any_rest (λ x. conn_eq x.conn d) w (before ws c) f

pub ahead_here : (c d : Conn) (ws : List Waiter) (i : ℕ) (w : Waiter) → i < length ws → conn_eq (get_or ws i w).conn c ≡ false → conn_eq (get_or ws i w).conn d ≡ true
    → stands_ahead c d (drop i ws) ≡ true
ahead_here c d ws i w lt e f = rw (drop_at ws i w lt) (ahead_found c d (get_or ws i w) (drop (i + 1) ws) e f)

pub ahead_past : (c d : Conn) (ws : List Waiter) (i : ℕ) (w : Waiter) → i < length ws → conn_eq (get_or ws i w).conn c ≡ false → conn_eq (get_or ws i w).conn d ≡ false
    → stands_ahead c d (drop i ws) ≡ stands_ahead c d (drop (i + 1) ws)
ahead_past c d ws i w lt e f = rw (drop_at ws i w lt) (ahead_next c d (get_or ws i w) (drop (i + 1) ws) e f)

take_at : {X : Type 0} (xs : List X) (i : ℕ) (d : X) → i < length xs → take (i + 1) xs ≡ take i xs ++ get_or xs i d ∷ []
take_at xs i d lt = take_more xs i d lt

granted_cons : (x h : Hold) (hs : List Hold) → conn_eq h.conn x.conn ≡ true → granted (h ∷ hs) x ≡ raised x h ∷ hs
granted_cons x h hs e = rw e refl

granted_past : (x h : Hold) (hs : List Hold) → conn_eq h.conn x.conn ≡ false → granted (h ∷ hs) x ≡ h ∷ granted hs x
granted_past x h hs e = rw e refl

pub granted_here : (x h : Hold) (hs : List Hold) (i : ℕ) → i < length hs → h ≡ get_or hs i h → conn_eq h.conn x.conn ≡ true
    → granted hs x ≡ take i hs ++ granted (drop i hs) x → slice_set hs i (raised x h) ≡ granted hs x
granted_here x h hs i lt at e left =
    set_split hs i (raised x h) lt
    ∙ sym (left ∙ ap (λ ys. take i hs ++ granted ys x) (drop_at hs i h lt)
    ∙ ap (λ k. take i hs ++ granted (k ∷ drop (i + 1) hs) x) (sym at)
    ∙ ap (λ ys. take i hs ++ ys) (granted_cons x h (drop (i + 1) hs) e) ∙ (rw add-one refl))

queued_stop : (hs : List Hold) (x w : Waiter) (ws : List Waiter) → is_holder hs x.conn ≡ true → is_holder hs w.conn ≡ false
    → queued hs x (w ∷ ws) ≡ x ∷ w ∷ ws
queued_stop hs x w ws e f = rw e (rw f refl)

queued_pass : (hs : List Hold) (x w : Waiter) (ws : List Waiter) → is_holder hs w.conn ≡ true → queued hs x (w ∷ ws) ≡ w ∷ queued hs x ws
queued_pass hs x w ws f = rw f (elim (is_holder hs x.conn) as (λ b. (if b && false then x ∷ w ∷ ws else w ∷ queued hs x ws) ≡ w ∷ queued hs x ws) [ true ↦ refl | false ↦ refl ])

pub queued_here : (hs : List Hold) (x : Waiter) (ws : List Waiter) (i : ℕ) (d : Waiter) → i < length ws → is_holder hs x.conn ≡ true
    → is_holder hs (get_or ws i d).conn ≡ false → queued hs x ws ≡ take i ws ++ queued hs x (drop i ws) → insert ws i x ≡ queued hs x ws
queued_here hs x ws i d lt e f left =
    sym (left ∙ ap (λ ys. take i ws ++ queued hs x ys) (drop_at ws i d lt)
    ∙ ap (λ ys. take i ws ++ ys) (queued_stop hs x (get_or ws i d) (drop (i + 1) ws) e f)
    ∙ ap (λ ys. take i ws ++ x ∷ ys) (sym (drop_at ws i d lt)))

pub queued_past : (hs : List Hold) (x : Waiter) (ws : List Waiter) (i : ℕ) (d : Waiter) → i < length ws
    → is_holder hs (get_or ws i d).conn ≡ true → queued hs x ws ≡ take i ws ++ queued hs x (drop i ws)
    → queued hs x ws ≡ take (i + 1) ws ++ queued hs x (drop (i + 1) ws)
queued_past hs x ws i d lt f left =
    left ∙ ap (λ ys. take i ws ++ queued hs x ys) (drop_at ws i d lt)
    ∙ ap (λ ys. take i ws ++ ys) (queued_pass hs x (get_or ws i d) (drop (i + 1) ws) f)
    ∙ (rw (take_at ws i d lt, append_assoc) refl)

pub insert_last : {X : Type 0} (xs : List X) (x : X) → insert xs (length xs) x ≡ xs ++ x ∷ []
insert_last xs x = let le : length xs ≤ length xs = omega arith in rw (take_all, drop_all) refl

pub queued_end : (hs : List Hold) (x : Waiter) (ws : List Waiter) (i : ℕ) → length ws ≤ i → queued hs x ws ≡ take i ws ++ queued hs x (drop i ws)
    → insert ws (length ws) x ≡ queued hs x ws
queued_end hs x ws i le left = insert_last ws x ∙ sym (left ∙ (rw (take_all, drop_all) refl))

queued_new_cons : (hs : List Hold) (x w : Waiter) (ws : List Waiter) → is_holder hs x.conn ≡ false → queued hs x (w ∷ ws) ≡ w ∷ queued hs x ws
queued_new_cons hs x w ws e = rw e refl

queued_new_last : (hs : List Hold) (x : Waiter) (ws : List Waiter) → is_holder hs x.conn ≡ false → queued hs x ws ≡ ws ++ x ∷ []
queued_new_last hs x [] e = refl
queued_new_last hs x (w ∷ ws) e = queued_new_cons hs x w ws e ∙ ap (λ ys. w ∷ ys) (queued_new_last hs x ws e)

pub queued_new : (hs : List Hold) (x : Waiter) (ws : List Waiter) → is_holder hs x.conn ≡ false → insert ws (length ws) x ≡ queued hs x ws
queued_new hs x ws e = insert_last ws x ∙ sym (queued_new_last hs x ws e)

unqueued_own : (c : Conn) (w : Waiter) (ws : List Waiter) → conn_eq w.conn c ≡ true → unqueued c (w ∷ ws) ≡ unqueued c ws
unqueued_own c w ws e = rw e refl

unqueued_past : (c : Conn) (w : Waiter) (ws : List Waiter) → conn_eq w.conn c ≡ false → unqueued c (w ∷ ws) ≡ w ∷ unqueued c ws
unqueued_past c w ws e = rw e refl

is_waiter_past : (c : Conn) (w : Waiter) (ws : List Waiter) → conn_eq w.conn c ≡ false → is_waiter (w ∷ ws) c ≡ is_waiter ws c
is_waiter_past c w ws e = rw e refl

unqueued_short : (c : Conn) (ws : List Waiter) → length (unqueued c ws) ≤ length ws
unqueued_short c ws = omega (arith, length-filter (λ (w : Waiter). not (conn_eq w.conn c)) ws, count_by-le-length (λ (w : Waiter). not (conn_eq w.conn c)) ws)

fewer_by : (c : Conn) (w : Waiter) (ws : List Waiter) (own : Bool) → conn_eq w.conn c ≡ own → (is_waiter ws c ≡ true → length (unqueued c ws) + 1 ≤ length ws)
    → is_waiter (w ∷ ws) c ≡ true → length (unqueued c (w ∷ ws)) + 1 ≤ length (w ∷ ws)
fewer_by c w ws true o ih e = rw (unqueued_own c w ws o) (omega (arith, unqueued_short c ws))
fewer_by c w ws false o ih e = rw (unqueued_past c w ws o) (omega (arith, ih (sym (is_waiter_past c w ws o) ∙ e)))

pub fewer_waiters : (c : Conn) (ws : List Waiter) → is_waiter ws c ≡ true → length (unqueued c ws) + 1 ≤ length ws
fewer_waiters c [] e = cc
fewer_waiters c (w ∷ ws) e = fewer_by c w ws (conn_eq w.conn c) refl (fewer_waiters c ws) e
