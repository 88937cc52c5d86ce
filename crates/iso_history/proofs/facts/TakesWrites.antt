-- What an Insert or an Update makes its connection take: the row and the inherited keys together were not at the limit.
use Rattle.std.proofs.Common.{◌≡◌, ◌≤◌, ◌+◌, inr, ℕ, Bool, true, false, not, ◌&&◌, if◌then◌else◌, List, [], ◌∷◌, map, refl, ap, ◌∙◌, arith, Some, None, Option, filter, count_by}
use Rattle.std.specs.Option.{option_map_or}
use Rattle.iso_history.proofs.facts.Takes.{Takes}
use Rattle.iso_history.proofs.facts.Taken.{lack, lack-one, taken-placed, taken-settled, taken_with}
use Rattle.iso_history.proofs.locks.Finds.{count-here, count-past}
use Rattle.iso_history.proofs.locks.Holds.{held-other, held-settled}
use Rattle.iso_history.proofs.locks.Placing.{placed-keeps}
use Rattle.iso_history.proofs.phantoms.JudgedGuards.{both-done}
use Rattle.iso_history.specs.Holds.{inheriting, is_inherited, request_on}
use Rattle.iso_history.specs.Requests.{is_limited}
use Rattle.iso_history.specs.Versions.{next_rid}
use Rattle.iso_history.specs.World.{World}
use Rattle.iso_history.specs.Writes.{inserts, judged_need, key_need, row_need, updates}
use Rattle.iso_history.specs.Writes.Written.{AtLimit, Done}
use Rattle.iso_modes.specs.Modes.{covers}
use Rattle.iso_modes.specs.declared.Mode.{Mode}
use Rattle.iso_modes.specs.declared.Mode.TheVariants.{S, X}
use Rattle.iso_modes.specs.declared.Term.TheVariants.{Kept}
use Rattle.iso_queue.specs.Locks.{Hold, Request, all_placed, held, is_covered, is_covered_on, is_held, placed, settled}
use Rattle.iso_queue.specs.Queues.{Wait, wait_of}
use Rattle.iso_types.specs.Head.{indexes_of, key_in, table_of}
use Rattle.iso_types.specs.Ids.{conn_eq, name_eq}
use Rattle.iso_types.specs.declared.head.Head.{Head}
use Rattle.iso_types.specs.declared.value.Conn.{Conn}
use Rattle.iso_types.specs.declared.value.IndexId.{IndexId}
use Rattle.iso_types.specs.declared.value.Name.{Name}
use Rattle.iso_types.specs.declared.value.Name.TheVariants.{Key, Row, Table}
use Rattle.iso_types.specs.declared.value.Rid.{Rid}
use Rattle.iso_types.specs.declared.value.TableId.{TableId}
use Rattle.iso_types.specs.declared.value.Value.{Value}

-- a need that is judged done is not at the limit
need-free : (head : Head) (w : World) (c : Conn) (k : ℕ) → judged_need head w c k ≡ Done → is_limited head w c k ≡ false
need-free head w c k e = go (is_limited head w c k) e
  where
    go : (b : Bool) → (if b then AtLimit else Done) ≡ Done → b ≡ false
    go true h = cc
    go false h = refl

module _ (head : Head) (w : World) (c : Conn) where
  -- the tables are held as before
  abbrev TablesAlike : List Hold → Type 0
  TablesAlike hs = (t : TableId) → held hs c (Table t) ≡ held w.holds c (Table t)

  tables-cover : (hs : List Hold) → TablesAlike hs → (n : Name) (m : Mode) → is_covered head hs c n m ≡ is_covered head w.holds c n m
  tables-cover hs same n m = go (table_of head n)
    where
      go : (o : Option TableId) → option_map_or (is_covered_on hs c m) o false ≡ option_map_or (is_covered_on w.holds c m) o false
      go None = refl
      go (Some t) = ap (λ (o : Option Mode). option_map_or (λ h. covers h m) o false) (same t)

  -- a request of a row or key leaves the tables
  tables-placed : (r : Request) → ((t : TableId) → name_eq r.name (Table t) ≡ false) → (hs : List Hold) → TablesAlike hs
      → TablesAlike (placed head hs c r)
  tables-placed r away hs same =
      placed-keeps head c TablesAlike hs r (λ e k t. held-other c r c (Table t) (and-no (conn_eq c c) _ (away t)) hs ∙ k t) same
    where
      and-no : (a b : Bool) → b ≡ false → (a && b) ≡ false
      and-no true b k = k
      and-no false b k = refl

  key-no_table : (i : IndexId) (v : Value) (t : TableId) → name_eq (Key i v) (Table t) ≡ false
  unfolding name_eq
  key-no_table i v t = refl

  row-no_table : (u : TableId) (r : Rid) (t : TableId) → name_eq (Row u r) (Table t) ≡ false
  unfolding name_eq
  row-no_table u r t = refl

  -- one name for each request that is not covered
  part-placed : (r : Request) (hs : List Hold) → TablesAlike hs → (o : Option Wait)
      → taken_with (placed head hs c r) c o ≤ taken_with hs c o + (if is_covered head w.holds c r.name r.mode then 0 else 1)
  part-placed r hs same o =
      let more = taken-placed c r head hs o in
      let less = at-most (is_covered head hs c r.name r.mode) (is_held hs c r.name) in
      let alike : lack (is_covered head hs c r.name r.mode) ≡ lack (is_covered head w.holds c r.name r.mode) =
      ap (λ (b : Bool). lack b) (tables-cover hs same r.name r.mode) in
      omega (arith, more, less, alike)
    where
      at-most : (a b : Bool) → (if a then 0 else lack b) ≤ (if a then 0 else 1)
      at-most true b = omega arith
      at-most false b = lack-one b

  module _ (row : List Value) (o : Option Wait) where
    abbrev key_of : IndexId → Name
    key_of i = Key i (key_in head i row)

    abbrev is_open : Name → Bool
    is_open n = not (is_covered head w.holds c n S)

    keys-placed : (is : List IndexId) (hs : List Hold) → TablesAlike hs
        → taken_with (all_placed head hs c (map (λ n. request_on n (S, Kept)) (map key_of is))) c o
        ≤ taken_with hs c o + count_by is_open (map key_of is)
    keys-placed [] hs same = omega arith
    keys-placed (i ∷ is) hs same =
        go (is_covered head w.holds c (key_of i) S) refl (part-placed (request_on (key_of i) (S, Kept)) hs same o)
        (keys-placed is (placed head hs c (request_on (key_of i) (S, Kept)))
        (tables-placed (request_on (key_of i) (S, Kept)) (key-no_table i (key_in head i row)) hs same))
      where
        go : (b : Bool) → is_covered head w.holds c (key_of i) S ≡ b
            → taken_with (placed head hs c (request_on (key_of i) (S, Kept))) c o
            ≤ taken_with hs c o + (if is_covered head w.holds c (key_of i) S then 0 else 1)
            → taken_with (all_placed head (placed head hs c (request_on (key_of i) (S, Kept))) c (map (λ n. request_on n (S, Kept)) (map key_of is))) c o
            ≤ taken_with (placed head hs c (request_on (key_of i) (S, Kept))) c o + count_by is_open (map key_of is)
            → taken_with (all_placed head hs c (map (λ n. request_on n (S, Kept)) (map key_of (i ∷ is)))) c o
            ≤ taken_with hs c o + count_by is_open (map key_of (i ∷ is))
        go true e first rest = omega (arith, rw e at first, rest, count-past is_open (key_of i) (map key_of is) (ap not e))
        go false e first rest = omega (arith, rw e at first, rest, count-here is_open (key_of i) (map key_of is) (ap not e))

  module _ (spare : Option Name) where
    settled-alike : TablesAlike (settled c spare w.holds)
    settled-alike t = held-settled c spare w.holds c (Table t)

    pub update-takes : (t : TableId) (r : Rid) (row : List Value) → updates head w c t r row ≡ Done
        → Takes head w c (all_placed head (settled c spare w.holds) c (inheriting head w c t row)) (wait_of w.waits c)
    update-takes t r row e =
        let keys = keys-placed row (wait_of w.waits c) (filter (is_inherited head w c row) (indexes_of head t)) (settled c spare w.holds) settled-alike in
        let same = taken-settled c spare w.holds c (wait_of w.waits c) in
        record {
          more = key_need head w c t row;
          fits = inr (need-free head w c (key_need head w c t row) ((both-done _ _ (both-done _ _ e).1).0));
          bound = omega (arith, keys, same);
        }

    pub insert-takes : (t : TableId) (r : Rid) (row : List Value) → r ≡ next_rid w t → inserts head w c t row ≡ Done
        → Takes head w c (all_placed head (settled c spare w.holds) c (request_on (Row t r) (X, Kept) ∷ inheriting head w c t row)) (wait_of w.waits c)
    insert-takes t r row at e =
        let first = part-placed (request_on (Row t r) (X, Kept)) (settled c spare w.holds) settled-alike (wait_of w.waits c) in
        let keys = keys-placed row (wait_of w.waits c) (filter (is_inherited head w c row) (indexes_of head t))
        (placed head (settled c spare w.holds) c (request_on (Row t r) (X, Kept)))
        (tables-placed (request_on (Row t r) (X, Kept)) (row-no_table t r) (settled c spare w.holds) settled-alike) in
        let same = taken-settled c spare w.holds c (wait_of w.waits c) in
        let need : lack (is_covered head w.holds c (Row t r) X) ≡ row_need head w c t (next_rid w t) = ap (row_need head w c t) at in
        record {
          more = row_need head w c t (next_rid w t) + key_need head w c t row;
          fits = inr (need-free head w c (row_need head w c t (next_rid w t) + key_need head w c t row)
              ((both-done _ _ ((both-done _ _ ((both-done _ _ e).1)).1)).0));
          bound = omega (arith, first, keys, same, need);
        }
