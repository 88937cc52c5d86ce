-- The rows that the records of the log carry.
use Rattle.std.specs.Prelude.{◌≡◌, ℕ, List, [], ◌∷◌, ◌++◌, map, Some, None, Option}
use Rattle.iso_history.specs.Makers.{by_agent}
use Rattle.iso_history.specs.Versions.{Change as Effect, change_of}
use Rattle.iso_history.specs.Versions.Change.{Adds, Keeps, Settles, Takes, Writes}
use Rattle.iso_history.specs.declared.entry.Act.TheVariants.{Commit, Delete, Insert, Undo, Update}
use Rattle.iso_history.specs.declared.entry.Entry.{Entry}
use Rattle.iso_record.specs.declared.record.Record.{Record}
use Rattle.iso_types.specs.declared.value.Conn.{Conn}
use Rattle.iso_types.specs.declared.value.Rid.{Rid}
use Rattle.iso_types.specs.declared.value.TableId.{TableId}
use Rattle.iso_types.specs.declared.value.Value.{Value}
use Rattle.iso_chain.specs.Stands.{Chained}
use Rattle.iso_chain.specs.Writes.{committed, inserted, taken_back, written}

-- what the record of this effect carries: the new row of an Insert and an Update; a Delete and an Undo carry none
abbrev pub rows_by : Effect → List (Option (List Value))
rows_by (Adds t row) = Some row ∷ []
rows_by (Writes t r row) = row ∷ []
rows_by (Takes n) = None ∷ []
rows_by Keeps = []
rows_by Settles = []

-- what each record of a history carries
abbrev pub rows_made : List Entry → List (Option (List Value))
rows_made [] = []
rows_made (e ∷ es) = rows_by (change_of e.act) ++ rows_made es

-- the log carries the new row of each Insert and Update of the history
abbrev pub CarriesRows : List Record → List Entry → Type 0
CarriesRows log es = map (λ n. n.after) log ≡ rows_made es

-- what a step writes carries the rows of the history with its entry, and so does the log where the entry changes no version
pub record RowsLaw (p : Chained) (c : Conn) (es : List Entry) : Type 0 where
  pub insert : (t : TableId) (r : Rid) (row : List Value) → CarriesRows (inserted p c t row).log (es ++ by_agent c (Insert t r row) ∷ [])
  pub update : (t : TableId) (r : Rid) (row : List Value) → CarriesRows (written p c t r (Some row)).log (es ++ by_agent c (Update t r row) ∷ [])
  pub delete : (t : TableId) (r : Rid) → CarriesRows (written p c t r None).log (es ++ by_agent c (Delete t r) ∷ [])
  pub undo : (n : ℕ) → CarriesRows (taken_back p c n).log (es ++ by_agent c (Undo n) ∷ [])
  pub commit : (ns : List ℕ) → CarriesRows (committed p c ns).log (es ++ by_agent c Commit ∷ [])
  pub other : (e : Entry) → change_of e.act ≡ Keeps → CarriesRows p.log (es ++ e ∷ [])
