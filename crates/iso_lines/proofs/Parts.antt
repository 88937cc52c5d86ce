-- Which connections a change of a line touches.
use Rattle.std.proofs.Common.{◌≡◌, ℕ, Bool, true, false, not, ◌&&◌, ◌||◌, List, [], ◌∷◌, map, refl, ap, sym, subst, ◌∙◌}
use Rattle.std.specs.List.{list_any}
use Rattle.std.specs.Option.{option_map_or}
use Rattle.std.specs.Prelude.{if◌then◌else◌, find, filter, is_some, Option, None, Some}
use Rattle.std.proofs.lemmas.Bool.{eqb-true}
use Rattle.std.proofs.lemmas.Cmp.{nat_eq_equiv}
use Rattle.iso_modes.specs.Terms.{is_brief, is_fresh}
use Rattle.iso_modes.specs.declared.Mode.{Mode}
use Rattle.iso_modes.specs.declared.Term.{Term}
use Rattle.iso_lines.specs.Named.{cancelled, changed, released}
use Rattle.iso_lines.specs.declared.lines.Change.{Change}
use Rattle.iso_queue.specs.Lines.{Line, asked, claimed, granted, is_granted, is_holder, is_touched, is_waiter, queued, raised, settled, settled_hold, unheld, unqueued, wait_for, waiter_of, has_edge, taken_in}
use Rattle.iso_queue.specs.declared.types.Hold.{Hold}
use Rattle.iso_queue.specs.declared.types.Waiter.{Waiter}
use Rattle.iso_types.specs.Ids.{conn_eq}
use Rattle.iso_types.specs.declared.value.Conn.{Conn}

-- of this connection
abbrev pub of_hold : Conn → Hold → Bool
of_hold c h = conn_eq h.conn c

abbrev pub of_waiter : Conn → Waiter → Bool
of_waiter c w = conn_eq w.conn c

some_by : {X : Type 0} (p : X → Bool) (x : X) (xs : List X) (b : Bool) → p x ≡ b → is_some (find p xs) ≡ list_any p xs → is_some (find p (x ∷ xs)) ≡ list_any p (x ∷ xs)
some_by p x xs true e ih = rw e refl
some_by p x xs false e ih = rw e ih

pub some_found : {X : Type 0} (p : X → Bool) (xs : List X) → is_some (find p xs) ≡ list_any p xs
some_found p [] = refl
some_found p (x ∷ xs) = some_by p x xs (p x) refl (some_found p xs)

any_yes : {X : Type 0} (p : X → Bool) (x : X) (xs : List X) → p x ≡ true → list_any p (x ∷ xs) ≡ true
any_yes p x xs e = rw e refl

any_no : {X : Type 0} (p : X → Bool) (x : X) (xs : List X) → p x ≡ false → list_any p (x ∷ xs) ≡ list_any p xs
any_no p x xs e = rw e refl

any_cons : {X : Type 0} (p : X → Bool) (x : X) (xs ys : List X) (b : Bool) → p x ≡ b → list_any p xs ≡ list_any p ys → list_any p (x ∷ xs) ≡ list_any p (x ∷ ys)
any_cons p x xs ys true e ih = any_yes p x xs e ∙ sym (any_yes p x ys e)
any_cons p x xs ys false e ih = any_no p x xs e ∙ ih ∙ sym (any_no p x ys e)

any_later : {X : Type 0} (p : X → Bool) (x : X) (xs : List X) (b : Bool) → p x ≡ b → list_any p xs ≡ true → list_any p (x ∷ xs) ≡ true
any_later p x xs true e ih = any_yes p x xs e
any_later p x xs false e ih = any_no p x xs e ∙ ih

granted_cons : (x h : Hold) (hs : List Hold) → conn_eq h.conn x.conn ≡ true → granted (h ∷ hs) x ≡ raised x h ∷ hs
granted_cons x h hs e = rw e refl

granted_past : (x h : Hold) (hs : List Hold) → conn_eq h.conn x.conn ≡ false → granted (h ∷ hs) x ≡ h ∷ granted hs x
granted_past x h hs e = rw e refl

own_by : (x h : Hold) (hs : List Hold) (b : Bool) → conn_eq h.conn x.conn ≡ b → list_any (of_hold x.conn) (granted hs x) ≡ true
    → list_any (of_hold x.conn) (granted (h ∷ hs) x) ≡ true
own_by x h hs true e ih = ap (list_any (of_hold x.conn)) (granted_cons x h hs e) ∙ any_yes (of_hold x.conn) (raised x h) hs e
own_by x h hs false e ih = ap (list_any (of_hold x.conn)) (granted_past x h hs e) ∙ any_no (of_hold x.conn) h (granted hs x) e ∙ ih

granted_own : (hs : List Hold) (x : Hold) → list_any (of_hold x.conn) (granted hs x) ≡ true
granted_own [] x = any_yes (of_hold x.conn) x [] (nat_eq_equiv.refl x.conn.0)
granted_own (h ∷ hs) x = own_by x h hs (conn_eq h.conn x.conn) refl (granted_own hs x)

other_by : (x h : Hold) (hs : List Hold) (d : Conn) → conn_eq x.conn d ≡ false → (b : Bool) → conn_eq h.conn x.conn ≡ b
    → list_any (of_hold d) (granted hs x) ≡ list_any (of_hold d) hs → list_any (of_hold d) (granted (h ∷ hs) x) ≡ list_any (of_hold d) (h ∷ hs)
other_by x h hs d ne true e ih =
    let f : conn_eq h.conn d ≡ false = nat_eq_equiv.congr h.conn.0 x.conn.0 d.0 e ∙ ne in
    ap (list_any (of_hold d)) (granted_cons x h hs e) ∙ any_no (of_hold d) (raised x h) hs f ∙ sym (any_no (of_hold d) h hs f)
other_by x h hs d ne false e ih = ap (list_any (of_hold d)) (granted_past x h hs e) ∙ any_cons (of_hold d) h (granted hs x) hs (conn_eq h.conn d) refl ih

granted_other : (hs : List Hold) (x : Hold) (d : Conn) → conn_eq x.conn d ≡ false → list_any (of_hold d) (granted hs x) ≡ list_any (of_hold d) hs
granted_other [] x d ne = any_no (of_hold d) x [] ne
granted_other (h ∷ hs) x d ne = other_by x h hs d ne (conn_eq h.conn x.conn) refl (granted_other hs x d ne)

-- where the wait goes before the next one or after it
queued_own_by : (p : Waiter → Bool) (b : Bool) (x w : Waiter) (ws rest : List Waiter) → p x ≡ true → list_any p rest ≡ true
    → list_any p (if b then x ∷ w ∷ ws else w ∷ rest) ≡ true
queued_own_by p true x w ws rest e ih = any_yes p x (w ∷ ws) e
queued_own_by p false x w ws rest e ih = any_later p w rest (p w) refl ih

queued_own : (hs : List Hold) (x : Waiter) (ws : List Waiter) → list_any (of_waiter x.conn) (queued hs x ws) ≡ true
queued_own hs x [] = any_yes (of_waiter x.conn) x [] (nat_eq_equiv.refl x.conn.0)
queued_own hs x (w ∷ ws) =
    queued_own_by (of_waiter x.conn) (is_holder hs x.conn && not (is_holder hs w.conn)) x w ws (queued hs x ws) (nat_eq_equiv.refl x.conn.0) (queued_own hs x ws)

queued_other_by : (p : Waiter → Bool) (b : Bool) (x w : Waiter) (ws rest : List Waiter) → p x ≡ false → list_any p rest ≡ list_any p ws
    → list_any p (if b then x ∷ w ∷ ws else w ∷ rest) ≡ list_any p (w ∷ ws)
queued_other_by p true x w ws rest e ih = any_no p x (w ∷ ws) e
queued_other_by p false x w ws rest e ih = any_cons p w rest ws (p w) refl ih

pub queued_other : (hs : List Hold) (x : Waiter) (ws : List Waiter) (d : Conn) → conn_eq x.conn d ≡ false → list_any (of_waiter d) (queued hs x ws) ≡ list_any (of_waiter d) ws
queued_other hs x [] d ne = any_no (of_waiter d) x [] ne
queued_other hs x (w ∷ ws) d ne =
    queued_other_by (of_waiter d) (is_holder hs x.conn && not (is_holder hs w.conn)) x w ws (queued hs x ws) ne (queued_other hs x ws d ne)

-- to leave out the items of one connection leaves those of another
pub kept : {X : Type 0} (r : X → Bool) (x : X) (xs : List X) → r x ≡ true → filter r (x ∷ xs) ≡ x ∷ filter r xs
kept r x xs e = rw e refl

pub gone : {X : Type 0} (r : X → Bool) (x : X) (xs : List X) → r x ≡ false → filter r (x ∷ xs) ≡ filter r xs
gone r x xs e = rw e refl

left_by : {X : Type 0} (p r : X → Bool) (x : X) (xs : List X) → ((y : X) → r y ≡ false → p y ≡ false) → (b : Bool) → r x ≡ b
    → list_any p (filter r xs) ≡ list_any p xs → list_any p (filter r (x ∷ xs)) ≡ list_any p (x ∷ xs)
left_by p r x xs apart true e ih = ap (list_any p) (kept r x xs e) ∙ any_cons p x (filter r xs) xs (p x) refl ih
left_by p r x xs apart false e ih = ap (list_any p) (gone r x xs e) ∙ ih ∙ sym (any_no p x xs (apart x e))

left_out : {X : Type 0} (p r : X → Bool) (xs : List X) → ((y : X) → r y ≡ false → p y ≡ false) → list_any p (filter r xs) ≡ list_any p xs
left_out p r [] apart = refl
left_out p r (x ∷ xs) apart = left_by p r x xs apart (r x) refl (left_out p r xs apart)

-- a line touches by its holders or its waiters
pub touched_any : (q : Line) (d : Conn) → is_touched q d ≡ (list_any (of_hold d) q.holders || list_any (of_waiter d) q.waiters)
touched_any q d = rw (some_found (of_hold d) q.holders, some_found (of_waiter d) q.waiters) refl

touched_like : (q r : Line) (d : Conn) → list_any (of_hold d) q.holders ≡ list_any (of_hold d) r.holders → list_any (of_waiter d) q.waiters ≡ list_any (of_waiter d) r.waiters
    → is_touched q d ≡ is_touched r d
touched_like q r d e f = touched_any q d ∙ ap (λ b. b || list_any (of_waiter d) q.waiters) e ∙ ap (λ b. list_any (of_hold d) r.holders || b) f ∙ sym (touched_any r d)

or_right : (a b : Bool) → b ≡ true → (a || b) ≡ true
or_right true b e = refl
or_right false b e = e

touched_by_hold : (q : Line) (d : Conn) → list_any (of_hold d) q.holders ≡ true → is_touched q d ≡ true
touched_by_hold q d e = touched_any q d ∙ ap (λ b. b || list_any (of_waiter d) q.waiters) e

touched_by_wait : (q : Line) (d : Conn) → list_any (of_waiter d) q.waiters ≡ true → is_touched q d ≡ true
touched_by_wait q d e = touched_any q d ∙ or_right (list_any (of_hold d) q.holders) (list_any (of_waiter d) q.waiters) e

asked_own_by : (q : Line) (x : Hold) (w : Waiter) (b : Bool) → conn_eq x.conn w.conn ≡ true → x.conn ≡ w.conn
    → is_touched (if b then record { holders = granted q.holders x; waiters = q.waiters } else record { holders = q.holders; waiters = queued q.holders w q.waiters }) w.conn ≡ true
asked_own_by q x w true e f =
    touched_by_hold (record { holders = granted q.holders x; waiters = q.waiters }) w.conn (subst (λ (c : Conn). list_any (of_hold c) (granted q.holders x) ≡ true) f (granted_own q.holders x))
asked_own_by q x w false e f = touched_by_wait (record { holders = q.holders; waiters = queued q.holders w q.waiters }) w.conn (queued_own q.holders w q.waiters)

-- a request touches for its connection
pub asked_own : (q : Line) (c : Conn) (m : Mode) (t : Term) → is_touched (asked q c m t) c ≡ true
asked_own q c m t = asked_own_by q (record { conn = c; mode = m; term = t }) (wait_for q.holders c m t) (is_granted q c m) (nat_eq_equiv.refl c.0) refl

asked_other_by : (q : Line) (x : Hold) (w : Waiter) (d : Conn) (b : Bool) → conn_eq x.conn d ≡ false → conn_eq w.conn d ≡ false
    → is_touched (if b then record { holders = granted q.holders x; waiters = q.waiters } else record { holders = q.holders; waiters = queued q.holders w q.waiters }) d ≡ is_touched q d
asked_other_by q x w d true e f = touched_like (record { holders = granted q.holders x; waiters = q.waiters }) q d (granted_other q.holders x d e) refl
asked_other_by q x w d false e f = touched_like (record { holders = q.holders; waiters = queued q.holders w q.waiters }) q d refl (queued_other q.holders w q.waiters d f)

-- and for no other
pub asked_other : (q : Line) (c : Conn) (m : Mode) (t : Term) (d : Conn) → conn_eq c d ≡ false → is_touched (asked q c m t) d ≡ is_touched q d
asked_other q c m t d ne = asked_other_by q (record { conn = c; mode = m; term = t }) (wait_for q.holders c m t) d (is_granted q c m) ne ne

not_false : (b : Bool) → not b ≡ false → b ≡ true
not_false true e = refl
not_false false e = sym e

-- a release changes nothing for another connection
pub released_other : (q : Line) (c d : Conn) → conn_eq c d ≡ false → is_touched (record { holders = unheld c q.holders; waiters = q.waiters }) d ≡ is_touched q d
released_other q c d ne =
    touched_like (record { holders = unheld c q.holders; waiters = q.waiters }) q d
    (left_out (of_hold d) (λ h. not (conn_eq h.conn c)) q.holders (λ y e. nat_eq_equiv.congr y.conn.0 c.0 d.0 (not_false (conn_eq y.conn c) e) ∙ ne)) refl

-- nor does a cancelled wait
pub cancelled_other : (q : Line) (c d : Conn) → conn_eq c d ≡ false → is_touched (record { holders = q.holders; waiters = unqueued c q.waiters }) d ≡ is_touched q d
cancelled_other q c d ne =
    touched_like (record { holders = q.holders; waiters = unqueued c q.waiters }) q d refl
    (left_out (of_waiter d) (λ w. not (conn_eq w.conn c)) q.waiters (λ y e. nat_eq_equiv.congr y.conn.0 c.0 d.0 (not_false (conn_eq y.conn c) e) ∙ ne))

taken_in_other : (q : Line) (c : Conn) (x : Waiter) (d : Conn) → conn_eq c d ≡ false → is_touched (taken_in q c x) d ≡ is_touched q d
taken_in_other q c x d ne =
    touched_like (taken_in q c x) q d (granted_other q.holders (record { conn = c; mode = x.target; term = x.term }) d ne)
    (left_out (of_waiter d) (λ w. not (conn_eq w.conn c)) q.waiters (λ y e. nat_eq_equiv.congr y.conn.0 c.0 d.0 (not_false (conn_eq y.conn c) e) ∙ ne))

taken_or : (q : Line) (c d : Conn) (x : Waiter) → conn_eq c d ≡ false → (b : Bool) → is_touched (if b then q else taken_in q c x) d ≡ is_touched q d
taken_or q c d x ne true = refl
taken_or q c d x ne false = taken_in_other q c x d ne

touched_waits : (q : Line) (c : Conn) (x : Waiter) → waiter_of q.waiters c ≡ Some x → is_touched q c ≡ true
touched_waits q c x e = or_right (is_holder q.holders c) (is_waiter q.waiters c) (ap (λ (o : Option Waiter). is_some o) e)

taken_own : (q : Line) (c : Conn) (x : Waiter) → is_touched q c ≡ true → (b : Bool) → is_touched (if b then q else taken_in q c x) c ≡ is_touched q c
taken_own q c x e true = refl
taken_own q c x e false = touched_by_hold (taken_in q c x) c (granted_own q.holders (record { conn = c; mode = x.target; term = x.term })) ∙ sym e

claimed_other_by : (q : Line) (c d : Conn) → conn_eq c d ≡ false → (o : Option Waiter)
    → is_touched (option_map_or (λ x. if has_edge q.holders q.waiters x then q else taken_in q c x) o q) d ≡ is_touched q d
claimed_other_by q c d ne None = refl
claimed_other_by q c d ne (Some x) = taken_or q c d x ne (has_edge q.holders q.waiters x)

-- nor does a claim
pub claimed_other : (q : Line) (c d : Conn) → conn_eq c d ≡ false → is_touched (claimed q c) d ≡ is_touched q d
claimed_other q c d ne = claimed_other_by q c d ne (waiter_of q.waiters c)

claimed_own_by : (q : Line) (c : Conn) (o : Option Waiter) → waiter_of q.waiters c ≡ o
    → is_touched (option_map_or (λ x. if has_edge q.holders q.waiters x then q else taken_in q c x) o q) c ≡ is_touched q c
claimed_own_by q c None e = refl
claimed_own_by q c (Some x) e = taken_own q c x (touched_waits q c x e) (has_edge q.holders q.waiters x)

-- a claim keeps what its connection touches
pub claimed_own : (q : Line) (c : Conn) → is_touched (claimed q c) c ≡ is_touched q c
claimed_own q c = claimed_own_by q c (waiter_of q.waiters c) refl

none_by : {X : Type 0} (p r : X → Bool) (x : X) (xs : List X) (a b : Bool) → p x ≡ a → r x ≡ b → (list_any p xs ≡ false → list_any p (filter r xs) ≡ false)
    → list_any p (x ∷ xs) ≡ false → list_any p (filter r (x ∷ xs)) ≡ false
none_by p r x xs true b e f ih none = cc (any_yes p x xs e)
none_by p r x xs false true e f ih none = ap (list_any p) (kept r x xs f) ∙ any_no p x (filter r xs) e ∙ ih (sym (any_no p x xs e) ∙ none)
none_by p r x xs false false e f ih none = ap (list_any p) (gone r x xs f) ∙ ih (sym (any_no p x xs e) ∙ none)

pub none_left : {X : Type 0} (p r : X → Bool) (xs : List X) → list_any p xs ≡ false → list_any p (filter r xs) ≡ false
none_left p r [] none = refl
none_left p r (x ∷ xs) none = none_by p r x xs (p x) (r x) refl refl (none_left p r xs) none

pub or_none : (a b : Bool) → (a || b) ≡ false → (a ≡ false) × (b ≡ false)
or_none true b e = cc
or_none false b e = (refl, e)

-- what is left touches for nobody anew
pub released_none : (q : Line) (c : Conn) → is_touched q c ≡ false → is_touched (released q c) c ≡ false
released_none q c e =
    let both = or_none (list_any (of_hold c) q.holders) (list_any (of_waiter c) q.waiters) (sym (touched_any q c) ∙ e) in
    touched_any (released q c) c
    ∙ ap (λ b. b || list_any (of_waiter c) q.waiters) (none_left (of_hold c) (λ h. not (conn_eq h.conn c)) q.holders both.0)
    ∙ both.1

cancelled_none : (q : Line) (c : Conn) → is_touched q c ≡ false → is_touched (cancelled q c) c ≡ false
cancelled_none q c e =
    let both = or_none (list_any (of_hold c) q.holders) (list_any (of_waiter c) q.waiters) (sym (touched_any q c) ∙ e) in
    touched_any (cancelled q c) c
    ∙ ap (λ b. b || list_any (of_waiter c) (unqueued c q.waiters)) both.0
    ∙ none_left (of_waiter c) (λ w. not (conn_eq w.conn c)) q.waiters both.1

pub conn_by : (h : Hold) (b : Bool) → (if b then record h { term = Term.Kept } else h).conn ≡ h.conn
conn_by h true = refl
conn_by h false = refl

any_settled : (c d : Conn) (s : Bool) (hs : List Hold) → list_any (of_hold d) (map (settled_hold c s) hs) ≡ list_any (of_hold d) hs
any_settled c d s [] = refl
any_settled c d s (h ∷ hs) =
    ap (λ (x : Conn). conn_eq x d || list_any (of_hold d) (map (settled_hold c s) hs)) (conn_by h (conn_eq h.conn c && (is_fresh h.term && not s)))
    ∙ ap (λ (b : Bool). conn_eq h.conn d || b) (any_settled c d s hs)

settled_none : (q : Line) (c : Conn) (s : Bool) → is_touched q c ≡ false → is_touched (settled q c s) c ≡ false
settled_none q c s e =
    let both = or_none (list_any (of_hold c) q.holders) (list_any (of_waiter c) q.waiters) (sym (touched_any q c) ∙ e) in
    touched_any (settled q c s) c
    ∙ ap (λ b. b || list_any (of_waiter c) q.waiters)
    (none_left (of_hold c) (λ (h : Hold). not (conn_eq h.conn c && is_brief h.term)) (map (settled_hold c s) q.holders) (any_settled c c s q.holders ∙ both.0))
    ∙ both.1

own : (a b : Bool) → not (a && b) ≡ false → a ≡ true
own true b e = refl
own false b e = sym e

settled_other : (q : Line) (c d : Conn) (s : Bool) → conn_eq c d ≡ false → is_touched (settled q c s) d ≡ is_touched q d
settled_other q c d s ne =
    touched_like (settled q c s) q d
    (left_out (of_hold d) (λ (h : Hold). not (conn_eq h.conn c && is_brief h.term)) (map (settled_hold c s) q.holders)
    (λ y e. nat_eq_equiv.congr y.conn.0 c.0 d.0 (own (conn_eq y.conn c) (is_brief y.term) e) ∙ ne)
    ∙ any_settled c d s q.holders) refl

claimed_by : (q : Line) (c d : Conn) (b : Bool) → conn_eq c d ≡ b → is_touched (claimed q c) d ≡ is_touched q d
claimed_by q c d true e = subst (λ (x : Conn). is_touched (claimed q c) x ≡ is_touched q x) (ap (λ (k : ℕ). record { 0 = k }) (eqb-true c.0 d.0 e)) (claimed_own q c)
claimed_by q c d false e = claimed_other q c d e

-- a claim leaves what each connection touches
pub claimed_same : (q : Line) (c d : Conn) → is_touched (claimed q c) d ≡ is_touched q d
claimed_same q c d = claimed_by q c d (conn_eq c d) refl

-- for another connection nothing changes
pub changed_other : (change : Change) (q : Line) (c d : Conn) → conn_eq c d ≡ false → is_touched (changed change c q) d ≡ is_touched q d
changed_other Change.Release q c d ne = released_other q c d ne
changed_other Change.Cancel q c d ne = cancelled_other q c d ne
changed_other (Change.Settle spared) q c d ne = settled_other q c d spared ne
changed_other Change.Claim q c d ne = claimed_same q c d

-- what is not touched is not touched after a change
pub changed_none : (change : Change) (q : Line) (c : Conn) → is_touched q c ≡ false → is_touched (changed change c q) c ≡ false
changed_none Change.Release q c e = released_none q c e
changed_none Change.Cancel q c e = cancelled_none q c e
changed_none (Change.Settle spared) q c e = settled_none q c spared e
changed_none Change.Claim q c e = claimed_own q c ∙ e

-- what is touched after a change was touched before
pub changed_some : (change : Change) (q : Line) (c : Conn) → is_touched (changed change c q) c ≡ true → is_touched q c ≡ true
changed_some change q c e = by (is_touched q c) refl
  where
    by : (b : Bool) → is_touched q c ≡ b → is_touched q c ≡ true
    by true f = f
    by false f = cc (sym (changed_none change q c f) ∙ e)
