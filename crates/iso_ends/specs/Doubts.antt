-- Which pairs of an index may be purgeable: those that stand in a set beside it. Each other one is calm, and its key is kept at its
-- rid; or its key's name is held to the end of a unit, and it is parked.
use Rattle.std.specs.Prelude.{◌≡◌, ◌≤◌, ◌⊎◌, ◌||◌, ℕ, Bool, true, false, List, length, take, slice_get, slice_index_or, slice_set, if◌then◌else◌, Option, Some, None}
use Rattle.iso_ends.specs.Freshness.{WasFresh}
use Rattle.iso_ends.specs.Purges.{is_calm}
use Rattle.iso_ends.specs.declared.doubt.Doubt.{Doubt}
use Rattle.iso_ends.specs.declared.doubts.Doubts.{Doubts}
use Rattle.iso_history.specs.After.{world}
use Rattle.iso_history.specs.Entries.{entries_of, with_pair, without_pair}
use Rattle.iso_history.specs.Holds.{keeps}
use Rattle.iso_history.specs.Orders.{IsOrdered, has_pair}
use Rattle.iso_history.specs.Versions.{versions}
use Rattle.iso_history.specs.World.{World}
use Rattle.iso_history.specs.declared.entry.Act.{Act}
use Rattle.iso_history.specs.declared.entry.Act.TheVariants.{Collapse, Commit, Delete, Insert, Purge, Rollback, Update}
use Rattle.iso_history.specs.declared.entry.Entry.{Entry}
use Rattle.iso_history.specs.declared.entry.Who.TheVariants.{Agent}
use Rattle.iso_key.specs.Pages.{entries}
use Rattle.iso_types.specs.Edges.{has_edge}
use Rattle.iso_types.specs.Head.{table_of_index}
use Rattle.iso_types.specs.Ids.{conn_eq, index_eq, table_eq}
use Rattle.iso_types.specs.declared.edges.Edges.{Edges}
use Rattle.iso_types.specs.declared.head.Head.{Head}
use Rattle.iso_types.specs.declared.head.IndexDef.{IndexDef}
use Rattle.iso_types.specs.declared.value.Conn.{Conn}
use Rattle.iso_types.specs.declared.value.IndexId.{IndexId}
use Rattle.iso_types.specs.declared.value.Name.{Name}
use Rattle.iso_types.specs.declared.value.Name.TheVariants.{Key}
use Rattle.iso_types.specs.declared.value.Rid.{Rid}
use Rattle.iso_types.specs.declared.value.TableId.{TableId}
use Rattle.iso_types.specs.declared.value.Value.{Value}
use Rattle.iso_types.specs.declared.value.Value.TheVariants.{Null}

-- the doubtful pairs of an index, by rid the keys of calm ones, the parked pairs, and the connections that hold their keys' names
pub record Known : Type 0 where
  pub pairs : List (Value × Rid)
  pub keys : List (Option Value)
  pub parked : List (Value × Rid)
  pub by : Edges

-- what is known, without the pages of the set
abbrev pub known_of : Doubt → Known
known_of d = record { pairs = entries d.pairs; keys = d.keys; parked = entries d.parked; by = d.by }

-- the key that is kept at a rid
abbrev pub kept_at : List (Option Value) → Rid → Option Value
kept_at keys r = slice_index_or keys r.0 None

-- the pair's key is kept at its rid, or the pair is parked
abbrev pub Excused : Known → Value × Rid → Type 0
Excused x p = (kept_at x.keys p.1 ≡ Some p.0) ⊎ (has_pair x.parked p ≡ true)

-- or it is doubtful
abbrev pub Knows : Known → Value × Rid → Type 0
Knows x p = (has_pair x.pairs p ≡ true) ⊎ Excused x p

-- one of these connections holds the name, and keeps it
abbrev pub IsHeld : World → Edges → Name → Type 0
IsHeld w by n = (c : Conn) × (has_edge by c ≡ true) × (keeps w c n ≡ true)

-- the parked pairs are some of the index's, and their keys' names are held
abbrev pub AreParked : World → IndexId → Known → Type 0
AreParked w i x = (p : Value × Rid) → has_pair x.parked p ≡ true → (has_pair (entries_of w i) p ≡ true) × IsHeld w x.by (Key i p.0)

-- each pair of the index is known, and each that is known is one of its pairs; those whose key is kept are calm
pub record IsKnown (head : Head) (w : World) (i : IndexId) (x : Known) : Type 0 where
  pub ordered : IsOrdered x.pairs
  pub all : (p : Value × Rid) → has_pair (entries_of w i) p ≡ true → Knows x p
  pub there : (p : Value × Rid) → has_pair x.pairs p ≡ true → has_pair (entries_of w i) p ≡ true
  pub kept : (r : Rid) (k : Value) → kept_at x.keys r ≡ Some k → has_pair (entries_of w i) (k, r) ≡ true
  pub calm : (r : Rid) (k : Value) (t : TableId) → kept_at x.keys r ≡ Some k → table_of_index head i ≡ Some t → is_calm head i k (versions w t r) ≡ true
  pub parked : AreParked w i x

-- so it was when there were so many entries
pub record WasKnown (head : Head) (es : List Entry) (i : IndexId) (x : Known) (n : ℕ) : Type 0 where
  pub within : n ≤ length es
  pub known : IsKnown head (world head (take n es)) i x

-- the doubt says when; or it says nothing
abbrev pub IsDoubtAt : Head → List Entry → IndexId → Known → Option ℕ → Type 0
IsDoubtAt head es i x None = Unit {0}
IsDoubtAt head es i x (Some n) = WasKnown head es i x n

-- what is known of an index
abbrev pub IsDoubt : Head → List Entry → IndexId → Doubt → Type 0
IsDoubt head es i d = IsDoubtAt head es i (known_of d) d.read

-- of each
abbrev pub AreDoubts : Head → List Entry → List Doubt → Type 0
AreDoubts head es ds = (i : IndexId) (d : Doubt) → slice_get ds i.0 ≡ Some d → IsDoubt head es i d

-- of all indexes: no pair was stale when it says, and the doubts were so when they say
pub record AreKept (head : Head) (es : List Entry) (d : Doubts) : Type 0 where
  pub fresh : WasFresh head es d.fresh
  pub sets : AreDoubts head es d.sets

-- the pair whose key is kept at a rid becomes doubtful
abbrev pub released_by : Rid → Option Value → Known → Known
released_by r None x = x
released_by r (Some k) x = record x { pairs = with_pair (k, r) x.pairs; keys = slice_set x.keys r.0 None }

abbrev pub released : Rid → Known → Known
released r x = released_by r (kept_at x.keys r) x

-- a row comes: its pair is doubtful, and so is the one whose key was kept
abbrev pub changed : Rid → Value → Known → Known
changed r key x = record (released r x) { pairs = with_pair (key, r) (released r x).pairs }

-- the row's key in an index
abbrev pub key_by : IndexDef → List Value → Value
key_by d row = slice_index_or row d.column Null

-- what is known after one more entry: a change makes the pairs of its rid doubtful, a purge takes its pair off
abbrev pub known_by : IndexId → IndexDef → Act → Known → Known
known_by i d (Insert t r row) x = if table_eq t d.table then changed r (key_by d row) x else x
known_by i d (Update t r row) x = if table_eq t d.table then changed r (key_by d row) x else x
known_by i d (Delete t r) x = if table_eq t d.table then released r x else x
known_by i d (Purge j key r) x = if index_eq j i then record x { pairs = without_pair (key, r) x.pairs } else x
known_by i d _ x = x

-- an act by which its maker may lose a hold that it keeps
abbrev pub may_free : Act → Bool
may_free (Collapse t m) = true
may_free Commit = true
may_free (Rollback code reason) = true
may_free Act.Ended = true
may_free _ = false

-- the entry frees no name by which a pair is parked
abbrev pub FreesNone : Entry → Known → Type 0
FreesNone e x = (c : Conn) → e.who ≡ Agent c → may_free e.act ≡ true → has_edge x.by c ≡ false

-- where the one is known of a world, so is the other
abbrev pub IsStill : Known → Known → Type 0
IsStill x y = (head : Head) (w : World) (i : IndexId) → IsKnown head w i x → IsKnown head w i y

-- what is known is so before an entry, by which no parked pair becomes purgeable
pub record IsFreed (e : Entry) (x y : Known) : Type 0 where
  pub known : IsStill x y
  pub none : FreesNone e y

-- no pair is parked by the connection any more
pub record IsUnparked (c : Conn) (x y : Known) : Type 0 where
  pub known : IsStill x y
  pub none : has_edge y.by c ≡ false

-- what is known after one more entry
abbrev pub IsNext : IndexId → IndexDef → Entry → Known → Known → Type 0
IsNext i d e x z = (y : Known) × IsFreed e x y × (z ≡ known_by i d e.act y)

-- a doubtful pair is parked by a connection
pub record IsParking (x y : Known) (p : Value × Rid) (c : Conn) : Type 0 where
  pub pairs : y.pairs ≡ without_pair p x.pairs
  pub keys : y.keys ≡ x.keys
  pub parked : y.parked ≡ with_pair p x.parked
  pub by : (d : Conn) → has_edge y.by d ≡ (conn_eq d c || has_edge x.by d)
