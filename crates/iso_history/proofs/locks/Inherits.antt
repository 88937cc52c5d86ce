-- What an Insert or an Update places fits: nobody holds a name that is not there.
use Rattle.std.proofs.Common.{◌≡◌, Bool, true, false, ◌&&◌, List, refl, ap, sym, ◌∙◌, Some, None, Option, filter}
use Rattle.std.specs.Option.{option_map_or}
use Rattle.std.proofs.lemmas.Bool.{and_parts, not-true}
use Rattle.iso_history.proofs.locks.Fits.{MayStand, held-from}
use Rattle.iso_history.proofs.locks.Holds.{held-other, held-settled}
use Rattle.iso_history.proofs.locks.Modes.{at_least-added, at_least-table}
use Rattle.iso_history.proofs.locks.Placing.{AllAlong, EachOf, all-along, at_least-alike, each-all, each-filter, each-map}
use Rattle.iso_history.proofs.locks.Same.{table_is}
use Rattle.iso_history.specs.Facts.{suits_held, HoldsThere, LocksSound}
use Rattle.iso_history.specs.Holds.{inherited, inheriting, is_inherited, request_on}
use Rattle.iso_history.specs.Requests.{is_row_mode, is_there, table_mode}
use Rattle.iso_history.specs.World.{World}
use Rattle.iso_modes.specs.Modes.{at_least}
use Rattle.iso_modes.specs.declared.Mode.{Mode}
use Rattle.iso_modes.specs.declared.Mode.TheVariants.{Ix, S}
use Rattle.iso_modes.specs.declared.Term.TheVariants.{Kept}
use Rattle.iso_queue.specs.Locks.{Hold, Request, added, held, hold_on, holds_at_least, settled}
use Rattle.iso_types.specs.Head.{indexes, indexes_of, key_in, table_of, table_of_index}
use Rattle.iso_types.specs.Ids.{conn_eq, name_eq, table_eq}
use Rattle.iso_types.specs.declared.head.Head.{Head}
use Rattle.iso_types.specs.declared.value.Conn.{Conn}
use Rattle.iso_types.specs.declared.value.IndexId.{IndexId}
use Rattle.iso_types.specs.declared.value.Name.{Name}
use Rattle.iso_types.specs.declared.value.Name.TheVariants.{Key, Table}
use Rattle.iso_types.specs.declared.value.TableId.{TableId}
use Rattle.iso_types.specs.declared.value.Value.{Value}

-- the test by which an index is a table's
abbrev pub is_index_of : Head → TableId → IndexId → Bool
is_index_of head t i = option_map_or (λ u. table_eq u t) (table_of_index head i) false

-- its table is that one
pub index-table : (head : Head) (t u : TableId) (i : IndexId) → is_index_of head t i ≡ true → table_of_index head i ≡ Some u → u ≡ t
index-table head t u i e k = table_is u t (rw k at e)

-- the inherited keys, each
pub each-inherited : (head : Head) (w : World) (c : Conn) (t : TableId) (row : List Value) (P : Request → Type 0)
    → ((i : IndexId) → is_index_of head t i ≡ true → is_inherited head w c row i ≡ true → P (request_on (Key i (key_in head i row)) (S, Kept)))
    → EachOf P (inheriting head w c t row)
each-inherited head w c t row P h =
    each-map P (λ (n : Name). request_on n (S, Kept)) (inherited head w c t row)
    (each-map (λ (n : Name). P (request_on n (S, Kept))) (λ (i : IndexId). Key i (key_in head i row)) (filter new (indexes_of head t))
    (each-filter of_key new (indexes_of head t)
    (each-filter (λ (i : IndexId). new i ≡ true → of_key i) (is_index_of head t) (indexes head)
    (each-all (λ (i : IndexId). is_index_of head t i ≡ true → new i ≡ true → of_key i) h (indexes head)))))
  where
    new : IndexId → Bool
    new i = is_inherited head w c row i

    of_key : IndexId → Type 0
    of_key i = P (request_on (Key i (key_in head i row)) (S, Kept))

-- an inherited key has no entry
pub inherited-new : (head : Head) (w : World) (c : Conn) (row : List Value) (i : IndexId) → is_inherited head w c row i ≡ true
    → is_there head w (Key i (key_in head i row)) ≡ false
inherited-new head w c row i e = not-true _ ((and_parts _ _ e).0)

module _ (head : Head) (w : World) (c : Conn) (s : LocksSound head w) (t : TableId) where
  -- others hold what they held, and the connection holds the table in IX or more
  abbrev pub MayPlace : List Hold → Type 0
  MayPlace hs = ((d : Conn) (k : Name) → conn_eq c d ≡ false → held hs d k ≡ held w.holds d k) × (holds_at_least hs c (Table t) Ix ≡ true)

  pub place-added : (hs : List Hold) (r : Request) → MayPlace hs → MayPlace (added hs c r)
  place-added hs r p = (λ d k ne. held-other c r d k (ap (λ (b : Bool). b && name_eq r.name k) ne) hs ∙ p.0 d k ne, at_least-added c r hs c (Table t) Ix p.1)

  pub place-settled : (spare : Option Name) → holds_at_least w.holds c (Table t) Ix ≡ true → MayPlace (settled c spare w.holds)
  place-settled spare e =
      (λ d k ne. held-settled c spare w.holds d k, at_least-alike (settled c spare w.holds) w.holds c (Table t) Ix (held-settled c spare w.holds) ∙ e)

  -- nobody holds a name that is not there
  pub nobody-holds : (d : Conn) (n : Name) (b : Mode) → is_there head w n ≡ false → held w.holds d n ≡ Some b → ⊥
  unfolding HoldsThere
  nobody-holds d n b e h =
      let g = held-from (hold_on w.holds d n) b h in
      let k : is_there head w n ≡ true = s.there d n g.0 g.1 in
      cc

  -- a kept request on a name of the table that is not there fits
  pub new-fits : (n : Name) (m : Mode) → suits_held n m ≡ true → is_there head w n ≡ false → ((u : TableId) → table_of head n ≡ Some u → u ≡ t)
      → (hs : List Hold) → MayPlace hs
      → MayStand head c hs (request_on n (m, Kept))
  new-fits n m suits away on hs p e = record {
    others = λ d b ne h. absurd (nobody-holds d n b away (sym (p.0 d n ne) ∙ h));
    backed = λ u k. ap (λ (z : TableId). holds_at_least hs c (Table z) (table_mode m)) (on u k) ∙ enough (held hs c (Table t)) p.1;
    kept = λ u k. refl;
    suits = suits;
  }
    where
      enough : (x : Option Mode) → option_map_or (λ a. at_least a Ix) x false ≡ true → option_map_or (λ a. at_least a (table_mode m)) x false ≡ true
      enough None k = cc
      enough (Some a) k = at_least-table a m k

  pub inheriting-fit : (row : List Value) → EachOf (λ r. (hs : List Hold) → MayPlace hs → MayStand head c hs r) (inheriting head w c t row)
  unfolding is_row_mode
  inheriting-fit row =
      each-inherited head w c t row (λ r. (hs : List Hold) → MayPlace hs → MayStand head c hs r)
      (λ i on e. new-fits (Key i (key_in head i row)) S refl (inherited-new head w c row i e) (λ u k. index-table head t u i on k))

  pub placing-fit : (spare : Option Name) → holds_at_least w.holds c (Table t) Ix ≡ true → (rs : List Request)
      → EachOf (λ r. (hs : List Hold) → MayPlace hs → MayStand head c hs r) rs → AllAlong (MayStand head c) head c (settled c spare w.holds) rs
  placing-fit spare e rs each = all-along head c (MayStand head c) MayPlace place-added rs each (settled c spare w.holds) (place-settled spare e)
