-- A key that a write adds without an entry inherits the lock that its maker keeps on the guard; a new row is held in X.
use Rattle.std.proofs.Common.{◌≡◌, Bool, true, false, List, [], ◌∷◌, map, refl, ap, sym, ◌∙◌, subst, Some, None, Option}
use Rattle.std.specs.List.{list_all, list_any}
use Rattle.std.specs.Option.{option_map, option_map_or}
use Rattle.std.specs.Prelude.{filter}
use Rattle.iso_history.proofs.phantoms.Tests.{join}
use Rattle.iso_history.proofs.phantoms.Dues.{raised-kept, settled-mode}
use Rattle.iso_history.proofs.phantoms.Finds.{all-map, find-all, find-map, find-passes}
use Rattle.iso_history.proofs.phantoms.FitHolds.{fits-placed, fits-settled_one, fits_hold, fits_request, inheriting-fits, s-guard, x-fits}
use Rattle.iso_history.proofs.phantoms.KeptHolds.{kept-all_placed, kept-briefs, kept_as, made-added}
use Rattle.iso_history.proofs.phantoms.ModeLaws.{cover-x-s, guard-joined, is_guard, joined-least}
use Rattle.iso_history.proofs.phantoms.Names.{index_is, name_same, of-name, of-same, of-new}
use Rattle.iso_history.proofs.phantoms.OtherHolds.{of-settled_one}
use Rattle.iso_history.proofs.phantoms.OwnLocks.{all-grow, guard-grows, k_guard, k_guard-kept, k_least, k_least-kept, least-grows}
use Rattle.iso_history.proofs.phantoms.SlotStays.{covered-held}
use Rattle.iso_history.specs.Gaps.{IsFit, fits_name, keeps_guard}
use Rattle.iso_history.specs.Holds.{holds_by_agent, inheriting, is_inherited, request_on, spared}
use Rattle.iso_history.specs.World.{World}
use Rattle.iso_history.specs.declared.entry.Act.{Act}
use Rattle.iso_history.specs.declared.entry.Act.TheVariants.{Insert, Update}
use Rattle.iso_modes.specs.Modes.{at_least, covers, joined, mode_eq, mode_number}
use Rattle.iso_modes.specs.Terms.{is_kept}
use Rattle.iso_modes.specs.declared.Mode.{Mode}
use Rattle.iso_modes.specs.declared.Mode.TheVariants.{S, X}
use Rattle.iso_modes.specs.declared.Term.TheVariants.{Kept}
use Rattle.iso_queue.specs.Locks.{Hold, Request, added, all_placed, held, hold_on, is_covered, is_covered_on, is_hold_of, placed, raised, settled, settled_one}
use Rattle.iso_types.specs.Head.{indexes_of, key_in, table_of_index}
use Rattle.iso_types.specs.Ids.{index_eq, name_eq}
use Rattle.iso_types.specs.declared.head.Head.{Head}
use Rattle.iso_types.specs.declared.value.Conn.{Conn}
use Rattle.iso_types.specs.declared.value.IndexId.{IndexId}
use Rattle.iso_types.specs.declared.value.Name.{Name}
use Rattle.iso_types.specs.declared.value.Name.TheVariants.{Key, Row, Table}
use Rattle.iso_types.specs.declared.value.Rid.{Rid}
use Rattle.iso_types.specs.declared.value.TableId.{TableId}
use Rattle.iso_types.specs.declared.value.Value.{Value}

-- a request on another name leaves a hold
of-else : (c : Conn) (n k : Name) (h : Hold) → name_eq k n ≡ false → is_hold_of c k h ≡ true → is_hold_of c n h ≡ false
of-else c n k h ne e = go (is_hold_of c n h) refl
  where
    go : (b : Bool) → is_hold_of c n h ≡ b → is_hold_of c n h ≡ false
    go false f = f
    go true f =
        let s : k ≡ n = sym (of-name c k h e) ∙ of-name c n h f in
        let z : name_eq k n ≡ true = subst (λ (m : Name). name_eq k m ≡ true) s (name_same k) in absurd (cc)

hold-added_else : (c : Conn) (n : Name) (r : Request) (hs : List Hold) → name_eq r.name n ≡ false → hold_on (added hs c r) c n ≡ hold_on hs c n
hold-added_else c n r [] ne =
    let z : is_hold_of c n (record { name = r.name; conn = c; mode = r.mode; term = r.term }) ≡ false =
    of-else c n r.name (record { name = r.name; conn = c; mode = r.mode; term = r.term }) ne (of-new c r.name r.mode r.term) in rw z refl
hold-added_else c n r (h ∷ hs) ne = go (hold-added_else c n r hs ne) (is_hold_of c r.name h) refl
  where
    go : hold_on (added hs c r) c n ≡ hold_on hs c n → (b : Bool) → is_hold_of c r.name h ≡ b → hold_on (added (h ∷ hs) c r) c n ≡ hold_on (h ∷ hs) c n
    go ih true e =
        let z : is_hold_of c n h ≡ false = of-else c n r.name h ne e in
        let y : is_hold_of c n (raised r.mode r.term h) ≡ false = of-same c n h (raised r.mode r.term h).mode (raised r.mode r.term h).term ∙ z in
        rw (e, y, z) refl
    go ih false e = rw e (by (is_hold_of c n h) refl)
      where
        by : (b : Bool) → is_hold_of c n h ≡ b → hold_on (h ∷ added hs c r) c n ≡ hold_on (h ∷ hs) c n
        by true f = rw f refl
        by false f = rw f ih

-- a request on another name leaves what is held
pub hold-placed_else : (head : Head) (c : Conn) (n : Name) (r : Request) (hs : List Hold) → name_eq r.name n ≡ false
    → hold_on (placed head hs c r) c n ≡ hold_on hs c n
hold-placed_else head c n r hs ne = go (is_covered head hs c r.name r.mode) refl
  where
    go : (b : Bool) → is_covered head hs c r.name r.mode ≡ b → hold_on (placed head hs c r) c n ≡ hold_on hs c n
    go true e = rw e refl
    go false e = rw e (hold-added_else c n r hs ne)

-- so it leaves the table's lock
covered-placed_else : (head : Head) (c : Conn) (t : TableId) (r : Request) (hs : List Hold) → name_eq r.name (Table t) ≡ false
    → is_covered_on (placed head hs c r) c S t ≡ is_covered_on hs c S t
covered-placed_else head c t r hs ne =
    ap (λ (h : Option Hold). option_map_or (λ m. covers m S) (option_map (λ h. h.mode) h) false) (hold-placed_else head c (Table t) r hs ne)

-- and so does settling
held-settled : (c : Conn) (spare : Option Name) (hs : List Hold) (n : Name) → held (settled c spare hs) c n ≡ held hs c n
held-settled c spare hs n = ap (option_map (λ h. h.mode)) (find-map (is_hold_of c n) (settled_one c spare) (of-settled_one c c n spare) hs)
    ∙ go (hold_on hs c n)
  where
    go : (o : Option Hold) → option_map (λ h. h.mode) (option_map (settled_one c spare) o) ≡ option_map (λ h. h.mode) o
    go None = refl
    go (Some h) = ap Some (settled-mode c spare h)

-- settling leaves what covers
pub covered-settled : (c : Conn) (spare : Option Name) (hs : List Hold) (m : Mode) (t : TableId)
    → is_covered_on (settled c spare hs) c m t ≡ is_covered_on hs c m t
covered-settled c spare hs m t = ap (λ (o : Option Mode). option_map_or (λ h. covers h m) o false) (held-settled c spare hs (Table t))

key-table : (j : IndexId) (v : Value) (t : TableId) → name_eq (Key j v) (Table t) ≡ false
unfolding name_eq
key-table j v t = refl

row-table : (x : TableId) (y : Rid) (t : TableId) → name_eq (Row x y) (Table t) ≡ false
unfolding name_eq
row-table x y t = refl

-- a hold of a list that fits
pub held-fits : (c : Conn) (n : Name) (hs : List Hold) (h : Hold) → list_all fits_hold hs ≡ true → hold_on hs c n ≡ Some h → fits_name n h.mode ≡ true
held-fits c n hs h a e = subst (λ (k : Name). fits_name k h.mode ≡ true) (of-name c n h (find-passes (is_hold_of c n) hs h e))
    (find-all (is_hold_of c n) fits_hold hs h a e)

-- S Kept on each key that passes
abbrev pub key_requests : Head → List Value → (IndexId → Bool) → List IndexId → List Request
key_requests head row p is = map (λ n. request_on n (S, Kept)) (map (λ i. Key i (key_in head i row)) (filter p is))

key_requests-fit : (head : Head) (row : List Value) (p : IndexId → Bool) (is : List IndexId) → list_all fits_request (key_requests head row p is) ≡ true
key_requests-fit head row p is = inheriting-fits head row (filter p is)

module _ (head : Head) (c : Conn) (row : List Value) (i : IndexId) (t : TableId) (on : table_of_index head i ≡ Some t) where
  abbrev key : Value
  key = key_in head i row

  -- S Kept placed on the key
  placed-key : (hs : List Hold) → list_all fits_hold hs ≡ true → is_covered_on hs c S t ≡ false
      → kept_as k_guard (placed head hs c (request_on (Key i key) (S, Kept))) c (Key i key) ≡ true
  placed-key hs a bare =
      let z : is_covered head hs c (Key i key) S ≡ false = (rw on bare) in
      rw z (made-added k_guard c (Key i key) (request_on (Key i key) (S, Kept)) hs refl (
        s-guard,
        λ h e. join (is_kept (raised S Kept h).term) (is_guard (joined h.mode S)) (raised-kept S h)
            (guard-joined h.mode S (held-fits c (Key i key) hs h a e) s-guard),
      ))

  placed-keys : (p : IndexId → Bool) (is : List IndexId) (hs : List Hold) → list_all fits_hold hs ≡ true → is_covered_on hs c S t ≡ false
      → list_any (index_eq i) is ≡ true → p i ≡ true
      → kept_as k_guard (all_placed head hs c (key_requests head row p is)) c (Key i key) ≡ true
  placed-keys p [] hs a bare h e = cc
  placed-keys p (j ∷ is) hs a bare h e = go (placed-keys p is) (p j) refl (index_eq i j) refl
    where
      go : ((hs : List Hold) → list_all fits_hold hs ≡ true → is_covered_on hs c S t ≡ false → list_any (index_eq i) is ≡ true → p i ≡ true
          → kept_as k_guard (all_placed head hs c (key_requests head row p is)) c (Key i key) ≡ true)
          → (b : Bool) → p j ≡ b → (d : Bool) → index_eq i j ≡ d
          → kept_as k_guard (all_placed head hs c (key_requests head row p (j ∷ is))) c (Key i key) ≡ true
      go ih false q true f = let z : p i ≡ false = subst (λ (x : IndexId). p x ≡ false) (sym (index_is i j f)) q in absurd (cc)
      go ih false q false f = rw q (ih hs a bare (rw f at h) e)
      go ih true q true f = rw q (subst (λ (x : IndexId). kept_as k_guard
          (all_placed head (placed head hs c (request_on (Key x (key_in head x row)) (S, Kept))) c (key_requests head row p is)) c (Key i key) ≡ true)
          (index_is i j f)
          (kept-all_placed head k_guard k_guard-kept c (Key i key) (key_requests head row p is) (placed head hs c (request_on (Key i key) (S, Kept)))
          (all-grow head k_guard k_guard-kept c (Key i key) (λ r. guard-grows head c (Key i key) r tt) (key_requests head row p is)
          (key_requests-fit head row p is))
          (placed-key hs a bare)))
      go ih true q false f = rw q (ih (placed head hs c (request_on (Key j (key_in head j row)) (S, Kept)))
          (fits-placed head c (request_on (Key j (key_in head j row)) (S, Kept) ∷ []) hs (rw s-guard refl) a)
          (covered-placed_else head c t (request_on (Key j (key_in head j row)) (S, Kept)) hs (key-table j (key_in head j row) t) ∙ bare)
          (rw f at h) e)

  module _ (w : World) (fit : IsFit w) (bare : is_covered_on w.holds c S t ≡ false) where
    -- the holds after settling
    abbrev base : Act → List Hold
    base a = settled c (spared a (w.last c)) w.holds

    base-fits : (a : Act) → list_all fits_hold (base a) ≡ true
    base-fits a = all-map fits_hold (settled_one c (spared a (w.last c))) (fits-settled_one c (spared a (w.last c))) w.holds fit.holds

    base-bare : (a : Act) → is_covered_on (base a) c S t ≡ false
    base-bare a = covered-settled c (spared a (w.last c)) w.holds S t ∙ bare

    -- a new key whose guard the maker keeps
    pub inherits-update : (y : Rid) → list_any (index_eq i) (indexes_of head t) ≡ true → is_inherited head w c row i ≡ true
        → keeps_guard (holds_by_agent head w c (Update t y row)) c (Key i key) ≡ true
    inherits-update y h e = kept-briefs head k_guard k_guard-kept c (Key i key) w.holds (all_placed head (base (Update t y row)) c (inheriting head w c t row))
        (placed-keys (is_inherited head w c row) (indexes_of head t) (base (Update t y row)) (base-fits (Update t y row)) (base-bare (Update t y row)) h e)

    -- the same of an Insert
    pub inherits-insert : (y : Rid) → list_any (index_eq i) (indexes_of head t) ≡ true → is_inherited head w c row i ≡ true
        → keeps_guard (holds_by_agent head w c (Insert t y row)) c (Key i key) ≡ true
    inherits-insert y h e = kept-briefs head k_guard k_guard-kept c (Key i key) w.holds
        (all_placed head (placed head (base (Insert t y row)) c (request_on (Row t y) (X, Kept))) c (inheriting head w c t row))
        (placed-keys (is_inherited head w c row) (indexes_of head t) (placed head (base (Insert t y row)) c (request_on (Row t y) (X, Kept)))
        (fits-placed head c (request_on (Row t y) (X, Kept) ∷ []) (base (Insert t y row)) (rw (x-fits t y) refl) (base-fits (Insert t y row)))
        (covered-placed_else head c t (request_on (Row t y) (X, Kept)) (base (Insert t y row)) (row-table t y t) ∙ base-bare (Insert t y row)) h e)

-- the new row
new-least : at_least X S ≡ true
unfolding at_least joined mode_eq mode_number
new-least = refl

-- it is held in X, so in S or more
pub row-inserted : (head : Head) (w : World) (c : Conn) (t : TableId) (y : Rid) (row : List Value) → is_covered_on w.holds c S t ≡ false
    → kept_as k_least (holds_by_agent head w c (Insert t y row)) c (Row t y) ≡ true
row-inserted head w c t y row bare = kept-briefs head k_least k_least-kept c (Row t y) w.holds
    (all_placed head (placed head hs c (request_on (Row t y) (X, Kept))) c (inheriting head w c t row))
    (kept-all_placed head k_least k_least-kept c (Row t y) (inheriting head w c t row) (placed head hs c (request_on (Row t y) (X, Kept)))
    (all-grow head k_least k_least-kept c (Row t y) (λ r f. least-grows head c (Row t y) r) (inheriting head w c t row) (inheriting-fits head row _)) first)
  where
    hs : List Hold
    hs = settled c (spared (Insert t y row) (w.last c)) w.holds

    uncovered : (b : Bool) → is_covered_on hs c X t ≡ b → is_covered_on hs c X t ≡ false
    uncovered false e = e
    uncovered true e =
        let x = covered-held hs c X t e in
        let z : is_covered_on hs c S t ≡ true = rw x.1 (cover-x-s x.0.mode x.2) in
        let n : is_covered_on hs c S t ≡ false = covered-settled c (spared (Insert t y row) (w.last c)) w.holds S t ∙ bare in absurd (cc)

    first : kept_as k_least (placed head hs c (request_on (Row t y) (X, Kept))) c (Row t y) ≡ true
    first = let z : is_covered head hs c (Row t y) X ≡ false = uncovered (is_covered_on hs c X t) refl in
        rw z (made-added k_least c (Row t y) (request_on (Row t y) (X, Kept)) hs refl
        (new-least, λ h e. join (is_kept (raised X Kept h).term) (at_least (joined h.mode X) S) (raised-kept X h) (joined-least h.mode X new-least)))
