-- What a look of an open statement makes of its scan, and where a step of an index scan comes to stand.
use Rattle.std.proofs.Common.{◌≡◌, ◌≤◌, ◌<◌, ◌+◌, ℕ, Bool, true, false, ◌&&◌, List, [], ◌∷◌, refl, subst, Option, Some, None, arith, length, length-append, if◌then◌else◌}
use Rattle.std.proofs.lemmas.Bool.{le-leb, leb-true, lt-ltb, ltb-true}
use Rattle.std.specs.List.{list_all}
use Rattle.std.specs.Option.{option_map_or}
use Rattle.std.specs.Prelude.{nat_le, nat_lt}
use Rattle.iso_agent.specs.Scans.{IsSoundPoint, is_scanned, is_walk, is_within}
use Rattle.iso_conduct.specs.Courses.{haul_size, keyed_within, scan_slot}
use Rattle.iso_conduct.specs.Parts.{Part, Walk}
use Rattle.iso_conduct.specs.Parts.Part.{EntryLook, Frees, IndexScan, TableScan}
use Rattle.iso_conduct.specs.Points.{Haul, Point, due_by, freeing, frees, hauled, is_kept, kept_with, look_rid, looked, looked_by, past_look, projected_by}
use Rattle.iso_conduct.specs.Points.Haul.{Found, Given, Number}
use Rattle.iso_conduct.specs.declared.moves.Move.{Move}
use Rattle.iso_history.proofs.phantoms.KeysAfter.{table-of-test}
use Rattle.iso_history.specs.Versions.{slots}
use Rattle.iso_history.specs.World.{World}
use Rattle.iso_history.specs.declared.entry.Want.{Want}
use Rattle.iso_sql.specs.Sound.{columns_of}
use Rattle.iso_sql.specs.declared.statement.Statement.{Statement}
use Rattle.iso_types.specs.Head.{table_of_index}
use Rattle.iso_types.specs.Ids.{table_eq}
use Rattle.iso_types.specs.declared.head.Head.{Head}
use Rattle.iso_types.specs.declared.head.Range.{Range}
use Rattle.iso_types.specs.declared.value.IndexId.{IndexId}
use Rattle.iso_types.specs.declared.value.Rid.{Rid}
use Rattle.iso_types.specs.declared.value.TableId.{TableId}
use Rattle.iso_types.specs.declared.value.Value.{Value}
use Rattle.iso_agent.proofs.ScanSteps.{FindsSlot, all-append, and-of, and-to}

-- what a look keeps is one row more at most
hauled-few : (kept : Haul) (r : Rid) (row given : List Value) → haul_size (hauled kept r row given) ≤ haul_size kept + 1
hauled-few (Number n) r row given = omega arith
hauled-few (Given rows) r row given = omega (arith, length-append rows (given ∷ []))
hauled-few (Found rows) r row given = omega (arith, length-append rows ((r, row) ∷ []))

kept-few : (p : Point) (shown : Option (List Value)) → haul_size (kept_with p shown) ≤ haul_size p.kept + 1
kept-few p None = omega arith
kept-few p (Some row) = hauled-few p.kept (look_rid p.left) row (projected_by p.statement row)

-- later there are no fewer slots, and more entries
pub record IsLater (w v : World) : Type 0 where
  pub slots : (t : TableId) → slots w t ≤ slots v t
  pub made : w.made + 1 ≤ v.made

within-later : (head : Head) (w v : World) (s : Statement) → IsLater w v → (x : Part) → is_within head w s x ≡ true → is_within head v s x ≡ true
within-later head w v s l (TableScan t want r) e =
    let a = and-of (is_scanned s t) (nat_le r (slots w t) && nat_le r w.made) e in
    let b = and-of (nat_le r (slots w t)) (nat_le r w.made) a.1 in
    let below : r ≤ slots v t = omega (arith, leb-true r (slots w t) b.0, l.slots t) in
    let few : r ≤ v.made = omega (arith, leb-true r w.made b.1, l.made) in
    and-to (is_scanned s t) (nat_le r (slots v t) && nat_le r v.made) a.0
    (and-to (nat_le r (slots v t)) (nat_le r v.made) (le-leb r (slots v t) below) (le-leb r v.made few))
within-later head w v s l (EntryLook k key r) e =
    let a = and-of (is_walk head s k) (nat_lt r.0 (slots w k.table)) e in
    let below : r.0 < slots v k.table = omega (arith, ltb-true r.0 (slots w k.table) a.1, l.slots k.table) in
    and-to (is_walk head s k) (nat_lt r.0 (slots v k.table)) a.0 (lt-ltb r.0 (slots v k.table) below)
within-later head w v s l x e = e

all-later : (head : Head) (w v : World) (s : Statement) → IsLater w v → (ps : List Part) → list_all (is_within head w s) ps ≡ true → list_all (is_within head v s) ps ≡ true
all-later head w v s l [] e = refl
all-later head w v s l (x ∷ xs) e =
    let k = and-of (is_within head w s x) (list_all (is_within head w s) xs) e in
    and-to (is_within head v s x) (list_all (is_within head v s) xs) (within-later head w v s l x k.0) (all-later head w v s l xs k.1)

pub sound-later : (head : Head) (w v : World) (p : Point) → IsLater w v → IsSoundPoint head w p → IsSoundPoint head v p
sound-later head w v p l g = record {
  sound = g.sound;
  columns = g.columns;
  within = all-later head w v p.statement l p.left g.within;
  few = omega (arith, g.few, l.made);
}

freeing-within : (head : Head) (w : World) (s : Statement) (ps : List Part) → list_all (is_within head w s) (freeing ps) ≡ true
freeing-within head w s (TableScan t want r ∷ ps) = go (frees want)
  where
    go : (b : Bool) → list_all (is_within head w s) (if b then Frees t (record { 0 = r }) ∷ [] else []) ≡ true
    go true = refl
    go false = refl
freeing-within head w s (EntryLook k key r ∷ ps) = go (frees k.want)
  where
    go : (b : Bool) → list_all (is_within head w s) (if b then Frees k.table r ∷ [] else []) ≡ true
    go true = refl
    go false = refl
freeing-within head w s _ = refl

fresh-within : (head : Head) (w : World) (s : Statement) (fresh : Bool) (ps : List Part) → list_all (is_within head w s) (if fresh then freeing ps else []) ≡ true
fresh-within head w s true ps = freeing-within head w s ps
fresh-within head w s false ps = refl

-- a look at a slot that is there goes on to the next
past-within : (head : Head) (w v : World) (s : Statement) (t : TableId) (want : Want) (r : ℕ) (ps : List Part) → IsLater w v → r < slots w t
    → list_all (is_within head w s) (TableScan t want r ∷ ps) ≡ true → list_all (is_within head v s) (TableScan t want (r + 1) ∷ ps) ≡ true
past-within head w v s t want r ps l there e =
    let k = and-of (is_within head w s (TableScan t want r)) (list_all (is_within head w s) ps) e in
    let a = and-of (is_scanned s t) (nat_le r (slots w t) && nat_le r w.made) k.0 in
    let b = and-of (nat_le r (slots w t)) (nat_le r w.made) a.1 in
    let below : r + 1 ≤ slots v t = omega (arith, there, l.slots t) in
    let few : r + 1 ≤ v.made = omega (arith, leb-true r w.made b.1, l.made) in
    and-to (is_within head v s (TableScan t want (r + 1))) (list_all (is_within head v s) ps)
    (and-to (is_scanned s t) (nat_le (r + 1) (slots v t) && nat_le (r + 1) v.made) a.0
    (and-to (nat_le (r + 1) (slots v t)) (nat_le (r + 1) v.made) (le-leb (r + 1) (slots v t) below) (le-leb (r + 1) v.made few)))
    (all-later head w v s l ps k.1)

-- a look at an entry goes back to its scan
back-within : (head : Head) (w v : World) (s : Statement) (k : Walk) (key : Value) (r : Rid) (ps : List Part) → IsLater w v
    → list_all (is_within head w s) (EntryLook k key r ∷ ps) ≡ true → list_all (is_within head v s) (IndexScan k (Some (key, r)) ∷ ps) ≡ true
back-within head w v s k key r ps l e =
    let a = and-of (is_within head w s (EntryLook k key r)) (list_all (is_within head w s) ps) e in
    and-to (is_walk head s k) (list_all (is_within head v s) ps) (and-of (is_walk head s k) (nat_lt r.0 (slots w k.table)) a.0).0 (all-later head w v s l ps a.1)

-- the look that is due is one of the statement's table, at a slot that is there or behind the last; a table scan is at no more slots than
-- there are entries
pub record IsLooking (head : Head) (w : World) (s : Statement) (ps : List Part) (t : TableId) (r : Rid) : Type 0 where
  pub scanned : is_scanned s t ≡ true
  pub within : r.0 ≤ slots w t
  pub slot : scan_slot ps ≤ w.made
  pub keyed : keyed_within (length (columns_of head t)) ps ≡ true
  pub past : (v : World) → IsLater w v → r.0 < slots w t → list_all (is_within head v s) (past_look ps) ≡ true

entry-looking : (head : Head) (w : World) (s : Statement) (k : Walk) (key : Value) (n : Rid) (ps : List Part)
    → list_all (is_within head w s) (EntryLook k key n ∷ ps) ≡ true → IsLooking head w s (EntryLook k key n ∷ ps) k.table n
entry-looking head w s k key n ps h =
    let a = and-of (is_within head w s (EntryLook k key n)) (list_all (is_within head w s) ps) h in
    let b = and-of (is_walk head s k) (nat_lt n.0 (slots w k.table)) a.0 in
    let d = and-of (is_scanned s k.table) _ b.0 in
    let lt : n.0 < slots w k.table = ltb-true n.0 (slots w k.table) b.1 in
    record {
      scanned = d.0;
      within = omega (arith, lt);
      slot = omega arith;
      keyed = (and-of (option_map_or (λ t. table_eq t k.table) (table_of_index head k.index) false) _ d.1).1;
      past = λ v l there. back-within head w v s k key n ps l h;
    }

table-looking : (head : Head) (w : World) (s : Statement) (t : TableId) (want : Want) (n : ℕ) (ps : List Part)
    → list_all (is_within head w s) (TableScan t want n ∷ ps) ≡ true → IsLooking head w s (TableScan t want n ∷ ps) t (record { 0 = n })
table-looking head w s t want n ps h =
    let a = and-of (is_within head w s (TableScan t want n)) (list_all (is_within head w s) ps) h in
    let b = and-of (is_scanned s t) (nat_le n (slots w t) && nat_le n w.made) a.0 in
    let d = and-of (nat_le n (slots w t)) (nat_le n w.made) b.1 in
    record {
      scanned = b.0;
      within = leb-true n (slots w t) d.0;
      slot = leb-true n w.made d.1;
      keyed = refl;
      past = λ v l there. past-within head w v s t want n ps l there h;
    }

pub looking : (head : Head) (w : World) (s : Statement) (kept : Haul) (ps : List Part) (t : TableId) (r : Rid) (want : Want)
    → due_by kept ps ≡ Move.Look t r want → list_all (is_within head w s) ps ≡ true → IsLooking head w s ps t r
looking head w s kept (TableScan u k n ∷ ps) t r want e h =
    let a : u ≡ t = cc in
    let d : record { 0 = n } ≡ r = cc in
    subst (λ (x : TableId). IsLooking head w s (TableScan u k n ∷ ps) x r) a
    (subst (λ (x : Rid). IsLooking head w s (TableScan u k n ∷ ps) u x) d (table-looking head w s u k n ps h))
looking head w s kept (EntryLook k key n ∷ ps) t r want e h =
    let a : k.table ≡ t = cc in
    let d : n ≡ r = cc in
    subst (λ (x : TableId). IsLooking head w s (EntryLook k key n ∷ ps) x r) a
    (subst (λ (x : Rid). IsLooking head w s (EntryLook k key n ∷ ps) k.table x) d (entry-looking head w s k key n ps h))
looking head w s kept _ t r want e h = absurd (cc)

looked-sound : (head : Head) (w v : World) (p : Point) (t : TableId) (r : Rid) (shown : Option (List Value)) (fresh kept : Bool)
    → IsLater w v → IsLooking head w p.statement p.left t r → r.0 < slots w t → IsSoundPoint head w p → IsSoundPoint head v (looked_by p shown fresh kept)
looked-sound head w v p t r shown fresh kept l look there g = go kept
  where
    past : list_all (is_within head v p.statement) (past_look p.left) ≡ true
    past = look.past v l there

    go : (b : Bool) → IsSoundPoint head v (looked_by p shown fresh b)
    go true = record {
      sound = g.sound;
      columns = g.columns;
      within = past;
      few = omega (arith, kept-few p shown, g.few, l.made);
    }
    go false = record {
      sound = g.sound;
      columns = g.columns;
      within = all-append (is_within head v p.statement) (if fresh then freeing p.left else []) (past_look p.left) (fresh-within head v p.statement fresh p.left) past;
      few = omega (arith, g.few, l.made);
    }

-- the answer of a look at a slot that is there
pub shown-sound : (head : Head) (w v : World) (p : Point) (t : TableId) (r : Rid) (shown : Option (List Value)) (fresh : Bool)
    → IsLater w v → IsLooking head w p.statement p.left t r → r.0 < slots w t → IsSoundPoint head w p → IsSoundPoint head v (looked p shown fresh)
shown-sound head w v p t r shown fresh l look there g = looked-sound head w v p t r shown fresh (is_kept p shown) l look there g

-- the step of an index scan that is due is one of the statement's
pub record IsWalking (head : Head) (ps : List Part) (i : IndexId) : Type 0 where
  pub table : TableId
  pub on : table_of_index head i ≡ Some table
  pub finds : (w : World) (s : Statement) (r : Rid) → r.0 < slots w table → FindsSlot head w s r ps

walk-on : (head : Head) (k : Walk) → option_map_or (λ t. table_eq t k.table) (table_of_index head k.index) false ≡ true → table_of_index head k.index ≡ Some k.table
walk-on head k e = table-of-test k.table (table_of_index head k.index) e

pub walking : (head : Head) (w : World) (s : Statement) (kept : Haul) (ps : List Part) (i : IndexId) (range : Range) (at : Option (Value × Rid)) (guarded : Bool)
    → due_by kept ps ≡ Move.Next i range at guarded → list_all (is_within head w s) ps ≡ true → IsWalking head ps i
walking head w s kept (IndexScan k from ∷ ps) i range at guarded e h =
    let a : k.index ≡ i = cc in
    let b = and-of (is_walk head s k) (list_all (is_within head w s) ps) h in
    let d = and-of (is_scanned s k.table) _ b.0 in
    let f = and-of (option_map_or (λ t. table_eq t k.table) (table_of_index head k.index) false) _ d.1 in
    subst (λ (x : IndexId). IsWalking head (IndexScan k from ∷ ps) x) a
    (record { table = k.table; on = walk-on head k f.0; finds = λ v z r there. there })
walking head w s kept _ i range at guarded e h = absurd (cc)
