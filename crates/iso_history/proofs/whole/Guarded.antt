-- The guards of every legal history: G1 to G4 of Ground alone, G5 where its guarded Nexts are chained and no Lock is on a key name alone.
use Rattle.std.proofs.Common.{◌≡◌, ◌<◌, ℕ, true, List, Some, length, take}
use Rattle.iso_history.proofs.facts.Guarded as held
use Rattle.iso_history.proofs.pending.ReadsGuarded.{committed-settled, reads_guarded}
use Rattle.iso_history.proofs.pending.RowsGuarded.{rows_guarded}
use Rattle.iso_history.proofs.pending.TablesGuarded.{tables_guarded}
use Rattle.iso_history.proofs.pending.Undo.{head-of}
use Rattle.iso_history.proofs.phantoms.Chains.{chains-guarded}
use Rattle.iso_history.proofs.phantoms.GapStarts.{orderly-start}
use Rattle.iso_history.proofs.phantoms.RangesGuarded.{run-along}
use Rattle.iso_history.proofs.whole.Sound.{sound-after, sound-at, sound-world, start-sound}
use Rattle.iso_history.specs.After.{start, world}
use Rattle.iso_history.specs.Facts.{IsSound}
use Rattle.iso_history.specs.Guards.{HoldsGuarded, RangesGuarded, ReadsGuarded, RowsGuarded, TablesGuarded, world_at}
use Rattle.iso_history.specs.Legal.{Ground}
use Rattle.iso_history.specs.Records.{last_left, note_of}
use Rattle.iso_history.specs.Scans.{AreChained, SoundRun, are_plain}
use Rattle.iso_history.specs.Settled.{settled_row}
use Rattle.iso_history.specs.Versions.{committed, head_record, versions}
use Rattle.iso_history.specs.declared.entry.Entry.{Entry}
use Rattle.iso_types.specs.declared.head.Head.{Head}
use Rattle.iso_types.specs.declared.value.Conn.{Conn}
use Rattle.iso_types.specs.declared.value.Rid.{Rid}
use Rattle.iso_types.specs.declared.value.TableId.{TableId}

-- G1
pub holds-guarded : (head : Head) (es : List Entry) → Ground head es → HoldsGuarded head es
holds-guarded head es g = held.holds-guarded head es g

-- G2
pub reads-guarded : (head : Head) (es : List Entry) → Ground head es → ReadsGuarded head es
reads-guarded head es g = reads_guarded head es g (sound-at head es g)

-- G3
pub rows-guarded : (head : Head) (es : List Entry) → Ground head es → RowsGuarded head es
rows-guarded head es g = rows_guarded head es g (sound-at head es g)

-- G4
pub tables-guarded : (head : Head) (es : List Entry) → Ground head es → TablesGuarded head es
tables-guarded head es g = tables_guarded head es g (sound-at head es g)

-- a legal history without a Lock on a key name alone is a sound run
pub sound-run : (head : Head) (es : List Entry) → Ground head es → are_plain es ≡ true → SoundRun head (start head) es
unfolding Ground
sound-run head es g plain =
    run-along head (IsSound head) (λ w s. s) (λ w e al p o s. sound-after head w e al s) (start head) es (start-sound head) (orderly-start head) g plain

-- G5
pub ranges-guarded : (head : Head) (es : List Entry) → Ground head es → are_plain es ≡ true → AreChained head es → RangesGuarded head es
ranges-guarded head es g plain chained = chains-guarded head es (sound-run head es g plain) chained

-- the committed row of each slot is the settled one
pub settled-committed : (head : Head) (es : List Entry) (k : ℕ) (t : TableId) (r : Rid) → t.0 < length head.tables → Ground head es
    → settled_row head (take k es) t r ≡ committed (versions (world_at head es k) t r)
settled-committed head es k t r lt g = committed-settled head es k t r lt g (sound-at head es g)

-- the greatest change that an open unit has left is the last version of its slot
pub undo-last : (head : Head) (es : List Entry) (c : Conn) (u n : ℕ) → Ground head es → (world head es).unit c ≡ Some u
    → last_left (world head es) u ≡ Some n
    → head_record (versions (world head es) (note_of (world head es).records n).table (note_of (world head es).records n).rid) ≡ Some n
undo-last head es c u n g = head-of head (world head es) (sound-world head es g) c u n
