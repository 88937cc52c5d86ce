-- When the log stands for the records of a world.
use Rattle.std.specs.Prelude.{◌≡◌, ℕ, ◌<◌, List, [], ◌∷◌, length, map, if◌then◌else◌, slice_index_or, Some, None, Option}
use Rattle.iso_history.specs.Changes.{no_change}
use Rattle.iso_history.specs.World.{Note, Version}
use Rattle.iso_record.specs.declared.record.Change.{Change}
use Rattle.iso_record.specs.declared.record.Change.TheVariants.{Undone}
use Rattle.iso_record.specs.declared.record.Record.{Record}

-- the record that a change undoes
abbrev pub undoes_of : Change → Option ℕ
undoes_of (Undone n) = Some n
undoes_of _ = None

-- the record as a history tells it
abbrev pub note_of_record : Record → Note
note_of_record n =
    record { unit = n.unit; table = n.table; rid = n.rid; undoes = undoes_of n.change; prev_row = n.prev_row; prev_unit = n.prev_unit }

-- what stands for a record that is not there
abbrev pub no_record : Record
no_record = record { number = 0; unit = 0; table = record { 0 = 0 }; rid = record { 0 = 0 }; change = no_change; prev_row = None; prev_unit = None; after = None }

-- record n
abbrev pub record_at : List Record → ℕ → Record
record_at log n = slice_index_or log n no_record

-- the log is the world's records with what each of them did, an update with the old values of the changed columns
pub record LogStands (log : List Record) (records : List Note) (changes : List Change) : Type 0 where
  pub notes : map note_of_record log ≡ records
  pub did : map (λ n. n.change) log ≡ changes
  pub numbers : (k : ℕ) → k < length log → (record_at log k).number ≡ k

-- the records of a slot's pending versions, last first
abbrev pub chain_of : List Record → List Version → List Record
chain_of log [] = []
chain_of log (v ∷ vs) = if v.pending then record_at log v.number ∷ chain_of log vs else []
