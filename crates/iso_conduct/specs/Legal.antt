-- The legal histories of a script, and what is guarded in them.
use Rattle.std.specs.Prelude.{◌≡◌, List, [], ◌∷◌, ◌++◌, IsTrue}
use Rattle.iso_conduct.specs.Conduct.{Conduct}
use Rattle.iso_conduct.specs.Pacing.{Paced}
use Rattle.iso_history.specs.Guards.{HoldsGuarded, RangesGuarded, ReadsGuarded, RowsGuarded, TablesGuarded}
use Rattle.iso_history.specs.Legal.{Ground}
use Rattle.iso_history.specs.Makers.{by_dispatcher}
use Rattle.iso_history.specs.declared.entry.Act.TheVariants.{Finish}
use Rattle.iso_history.specs.declared.entry.Entry.{Entry}
use Rattle.iso_script.specs.declared.script.Script.{Script}
use Rattle.iso_types.specs.Head.{is_conn}
use Rattle.iso_types.specs.declared.value.Conn.{Conn}

-- each entry may stand on its prefix, each connection keeps to its statements, the dispatcher to the lines
pub record IsLegal (script : Script) (es : List Entry) : Type 0 where
  pub ground : Ground script.head es
  pub conduct : (c : Conn) → IsTrue (is_conn script.head c) → Conduct script.head script.lines es c
  pub paced : Paced script.head script.lines es

-- held locks go together; a Current look shows the settled row; a row that was looked at to stay, a table under an RR scan and
-- the part of a range that an RR scan has passed are changed by no other until the unit ends
pub record AreGuarded (script : Script) (es : List Entry) : Type 0 where
  pub holds : HoldsGuarded script.head es
  pub reads : ReadsGuarded script.head es
  pub rows : RowsGuarded script.head es
  pub tables : TablesGuarded script.head es
  pub ranges : RangesGuarded script.head es

-- the history ends with Finish
abbrev pub IsFinished : List Entry → Type 0
IsFinished es = (before : List Entry) × (es ≡ before ++ by_dispatcher Finish ∷ [])
