-- What settling keeps of a list of holds, and filters by a test that is known.
use Rattle.std.proofs.Common.{◌≡◌, Bool, true, false, not, ◌&&◌, ◌||◌, List, [], ◌∷◌, ◌++◌, map, refl, ap, sym, subst, ◌∙◌, append_assoc}
use Rattle.std.specs.List.{list_any}
use Rattle.std.specs.Prelude.{filter, if◌then◌else◌, Option}
use Rattle.std.proofs.lemmas.List.Folds.{list_any-append}
use Rattle.iso_lines.proofs.Names.{name_same}
use Rattle.iso_modes.specs.Terms.{is_brief, is_fresh}
use Rattle.iso_modes.specs.declared.Term.{Term}
use Rattle.iso_queue.specs.Locks as locks
use Rattle.iso_types.specs.Ids.{conn_eq}
use Rattle.iso_types.specs.declared.value.Conn.{Conn}
use Rattle.iso_types.specs.declared.value.Name.{Name}

-- not a Brief hold of the connection
abbrev pub stays : Conn → locks.Hold → Bool
stays c h = not (conn_eq h.conn c && is_brief h.term)

-- not one that was Brief before
abbrev pub stays_after : List locks.Hold → Conn → locks.Hold → Bool
stays_after before c h = not (conn_eq h.conn c && (is_brief h.term && locks.was_brief before c h.name))

pub kept : {X : Type 0} (p : X → Bool) (x : X) (xs : List X) → p x ≡ true → filter p (x ∷ xs) ≡ x ∷ filter p xs
kept p x xs e = rw e refl

pub gone : {X : Type 0} (p : X → Bool) (x : X) (xs : List X) → p x ≡ false → filter p (x ∷ xs) ≡ filter p xs
gone p x xs e = rw e refl

pub alike_by : {X : Type 0} (p q : X → Bool) (x : X) (xs : List X) (b : Bool) → q x ≡ b → p x ≡ q x → filter p xs ≡ filter q xs → filter p (x ∷ xs) ≡ filter q (x ∷ xs)
alike_by p q x xs true e same ih = kept p x xs (same ∙ e) ∙ ap (λ (l : List _). x ∷ l) ih ∙ sym (kept q x xs e)
alike_by p q x xs false e same ih = gone p x xs (same ∙ e) ∙ ih ∙ sym (gone q x xs e)

pub or_right : (a b : Bool) → b ≡ true → (a || b) ≡ true
or_right true b e = refl
or_right false b e = e

is_hold : (c : Conn) (h : locks.Hold) → conn_eq h.conn c ≡ true → is_brief h.term ≡ true → (locks.is_hold_of c h.name h && is_brief h.term) ≡ true
unfolding locks.is_hold_of
is_hold c h e f = rw (e, name_same h.name, f) refl

-- a Brief hold of the list was Brief in it
pub was : (c : Conn) (pre : List locks.Hold) (h : locks.Hold) (rest : List locks.Hold) → conn_eq h.conn c ≡ true → is_brief h.term ≡ true
    → locks.was_brief (pre ++ h ∷ rest) c h.name ≡ true
was c pre h rest e f =
    let t = (λ (x : locks.Hold). locks.is_hold_of c h.name x && is_brief x.term) in
    list_any-append t pre (h ∷ rest) ∙ or_right (list_any t pre) (list_any t (h ∷ rest)) (ap (λ (b : Bool). b || list_any t rest) (is_hold c h e f))

pub and_by : (a b w : Bool) → (a ≡ true → b ≡ true → w ≡ true) → (a && (b && w)) ≡ (a && b)
and_by true true w e = e refl refl
and_by true false w e = refl
and_by false b w e = refl

none_kept : (a b : Bool) → (a && (false && b)) ≡ (a && false)
none_kept a b = refl

same_by : (c : Conn) (pre : List locks.Hold) (h : locks.Hold) (rest : List locks.Hold) (b : Bool)
    → stays_after (pre ++ h ∷ rest) c (if b then record h { term = Term.Kept } else h) ≡ stays c (if b then record h { term = Term.Kept } else h)
same_by c pre h rest true = ap not (none_kept (conn_eq h.conn c) (locks.was_brief (pre ++ h ∷ rest) c h.name))
same_by c pre h rest false =
    ap not (and_by (conn_eq h.conn c) (is_brief h.term) (locks.was_brief (pre ++ h ∷ rest) c h.name) (λ e f. was c pre h rest e f))

-- each Brief hold that is left was Brief before
pub all_were : (c : Conn) (spare : Option Name) (pre hs : List locks.Hold)
    → filter (stays_after (pre ++ hs) c) (map (locks.settled_one c spare) hs) ≡ filter (stays c) (map (locks.settled_one c spare) hs)
all_were c spare pre [] = refl
all_were c spare pre (h ∷ hs) =
    let seam : (pre ++ h ∷ []) ++ hs ≡ pre ++ h ∷ hs = rw append_assoc refl in
    let rest = subst (λ (l : List locks.Hold). filter (stays_after l c) (map (locks.settled_one c spare) hs) ≡ filter (stays c) (map (locks.settled_one c spare) hs)) seam
    (all_were c spare (pre ++ h ∷ []) hs) in
    alike_by (stays_after (pre ++ h ∷ hs) c) (stays c) (locks.settled_one c spare h) (map (locks.settled_one c spare) hs) (stays c (locks.settled_one c spare h)) refl
    (same_by c pre h hs (conn_eq h.conn c && (is_fresh h.term && not (locks.is_spared spare h)))) rest

pub map_append : {X Y : Type 0} (f : X → Y) (xs ys : List X) → map f (xs ++ ys) ≡ map f xs ++ map f ys
map_append f [] ys = refl
map_append f (x ∷ xs) ys = ap (λ (l : List _). f x ∷ l) (map_append f xs ys)
