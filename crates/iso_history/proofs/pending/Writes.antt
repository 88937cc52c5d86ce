-- X or more on a row is kept.
use Rattle.std.proofs.Common.{◌≡◌, Bool, true, false, not, ◌&&◌, ◌||◌, List, [], ◌∷◌, filter, refl, Option, if◌then◌else◌}
use Rattle.std.specs.List.{list_all}
use Rattle.iso_history.proofs.pending.Conns.{and-both, and-first, and-rest, no-both}
use Rattle.iso_history.proofs.pending.Finds.{all-filter, all-map}
use Rattle.iso_history.proofs.pending.Kept.{hold-name}
use Rattle.iso_history.specs.Facts.{WritesKept, is_kept_write, is_row}
use Rattle.iso_modes.specs.Modes.{at_least, joined}
use Rattle.iso_modes.specs.Terms.{is_fresh, is_kept}
use Rattle.iso_modes.specs.declared.Mode.TheVariants.{X}
use Rattle.iso_modes.specs.declared.Term.TheVariants.{Kept}
use Rattle.iso_queue.specs.Locks.{Hold, Request, added, holds_at_least, is_covered, is_hold_of, is_spared, placed, raised, settled, settled_one, target}
use Rattle.iso_types.specs.Ids.{conn_eq, name_eq}
use Rattle.iso_types.specs.declared.head.Head.{Head}
use Rattle.iso_types.specs.declared.value.Conn.{Conn}
use Rattle.iso_types.specs.declared.value.Name.{Name}
use Rattle.iso_types.specs.declared.value.Name.TheVariants.{End, Key, Row, Table}

-- to settle makes no hold less kept
settled-good : (c : Conn) (spare : Option Name) (h : Hold) → is_kept_write h ≡ true → is_kept_write (settled_one c spare h) ≡ true
unfolding is_kept_write
settled-good c spare h e = go (conn_eq h.conn c && (is_fresh h.term && not (is_spared spare h)))
  where
    or-true : (b : Bool) → (b || true) ≡ true
    or-true true = refl
    or-true false = refl

    go : (b : Bool) → is_kept_write (if b then record h { term = Kept } else h) ≡ true
    go true = or-true (not (is_row h.name && at_least h.mode X))
    go false = e

pub writes-settled : (c : Conn) (spare : Option Name) (holds : List Hold) → WritesKept holds → WritesKept (settled c spare holds)
unfolding WritesKept
writes-settled c spare holds s = all-map is_kept_write is_kept_write (settled_one c spare) (settled-good c spare) holds s

pub writes-filter : (q : Hold → Bool) (holds : List Hold) → WritesKept holds → WritesKept (filter q holds)
unfolding WritesKept
writes-filter q holds s = all-filter is_kept_write q holds s

-- what a request makes of a row is kept
abbrev pub RequestKeeps : List Hold → Conn → Request → Type 0
RequestKeeps holds c r = is_row r.name ≡ true → at_least (target holds c r.name r.mode) X ≡ true
    → (is_kept r.term || holds_at_least holds c r.name X) ≡ true

row_is : (n m : Name) → name_eq n m ≡ true → is_row n ≡ true → is_row m ≡ true
unfolding name_eq
row_is (Row t r) (Row u s) e i = refl
row_is (Row t r) (Table u) e i = cc
row_is (Row t r) (Key j v) e i = cc
row_is (Row t r) (End j) e i = cc
row_is (Table t) m e i = cc
row_is (Key j v) m e i = cc
row_is (End j) m e i = cc

-- the hold that a request makes or raises
raised-good : (r : Request) (h : Hold) → is_kept_write h ≡ true → name_eq h.name r.name ≡ true
    → (is_row r.name ≡ true → at_least (joined h.mode r.mode) X ≡ true → (is_kept r.term || at_least h.mode X) ≡ true)
    → is_kept_write (raised r.mode r.term h) ≡ true
unfolding is_kept_write
raised-good r h e same keeps = go (is_row h.name) refl (at_least (joined h.mode r.mode) X) refl (at_least h.mode X) refl (is_kept h.term) refl
  where
    term_is : (a b : Bool) → is_kept (if a then Kept else r.term) ≡ (a || is_kept r.term)
    term_is true b = refl
    term_is false b = refl

    go : (a : Bool) → is_row h.name ≡ a → (b : Bool) → at_least (joined h.mode r.mode) X ≡ b → (d : Bool) → at_least h.mode X ≡ d → (k : Bool)
        → is_kept h.term ≡ k
        → (not (is_row h.name && at_least (joined h.mode r.mode) X) || is_kept (if is_kept h.term then Kept else r.term)) ≡ true
    go false a b q d m k t = rw a refl
    go true a false q d m k t = rw (a, q) refl
    go true a true q d m true t = rw (a, q, t) refl
    go true a true q true m false t = absurd (no-both (rw (a, m, t) at e) refl)
    go true a true q false m false t =
        let z : (is_kept r.term || at_least h.mode X) ≡ true = keeps (row_is h.name r.name same a) q in
        let y : (is_kept r.term || false) ≡ true = rw m at z in
        let x : is_kept r.term ≡ true = or-first (is_kept r.term) y in
        rw (a, q, t, x) refl
      where
        or-first : (b : Bool) → (b || false) ≡ true → b ≡ true
        or-first true y = refl
        or-first false y = y

new-good : (c : Conn) (r : Request) → (is_row r.name ≡ true → at_least r.mode X ≡ true → (is_kept r.term || false) ≡ true)
    → is_kept_write (record { name = r.name; conn = c; mode = r.mode; term = r.term }) ≡ true
unfolding is_kept_write
new-good c r keeps = go (is_row r.name) refl (at_least r.mode X) refl
  where
    or-first : (b : Bool) → (b || false) ≡ true → b ≡ true
    or-first true y = refl
    or-first false y = y

    go : (a : Bool) → is_row r.name ≡ a → (b : Bool) → at_least r.mode X ≡ b → (not (is_row r.name && at_least r.mode X) || is_kept r.term) ≡ true
    go false a b q = rw a refl
    go true a false q = rw (a, q) refl
    go true a true q = rw (a, q, or-first (is_kept r.term) (keeps a q)) refl

pub writes-added : (holds : List Hold) (c : Conn) (r : Request) → RequestKeeps holds c r → WritesKept holds → WritesKept (added holds c r)
unfolding WritesKept
writes-added [] c r f s = and-both _ _ (new-good c r f) refl
writes-added (h ∷ hs) c r f s = go (writes-added hs c r) (is_hold_of c r.name h) refl
  where
    go : (RequestKeeps hs c r → WritesKept hs → WritesKept (added hs c r)) → (b : Bool) → is_hold_of c r.name h ≡ b
        → list_all is_kept_write (added (h ∷ hs) c r) ≡ true
    go ih true b = rw b (and-both _ _ (raised-good r h (and-first _ _ s) (hold-name c r.name h b) (λ i l. rw b at (f i (rw b l))))
        (and-rest (is_kept_write h) _ s))
    go ih false b = rw b (and-both _ _ (and-first _ _ s) (ih (λ i l. rw b at (f i (rw b l))) (and-rest (is_kept_write h) _ s)))

module _ (head : Head) where
  pub writes-placed : (holds : List Hold) (c : Conn) (r : Request) → RequestKeeps holds c r → WritesKept holds → WritesKept (placed head holds c r)
  writes-placed holds c r f s = go (is_covered head holds c r.name r.mode)
    where
      go : (b : Bool) → WritesKept (if b then holds else added holds c r)
      go true = s
      go false = writes-added holds c r f s
