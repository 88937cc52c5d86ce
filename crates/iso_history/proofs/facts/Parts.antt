-- Each table of the head has its slots, and each index its pairs.
use Rattle.std.proofs.Common.{◌≡◌, length, ◌∙◌}
use Rattle.std.proofs.lemmas.List.{length-map, length-set}
use Rattle.std.proofs.lemmas.List.FromFn.{length-range_with_len}
use Rattle.iso_history.proofs.locks.There.{entries-count, tables-count}
use Rattle.iso_history.specs.After.{after, start}
use Rattle.iso_history.specs.Entries.{Pairing, entries_by, entries_of, pairing_of, without_pair}
use Rattle.iso_history.specs.Entries.Pairing.{Gains, Loses, Same}
use Rattle.iso_history.specs.Facts.{HasParts, LocksSound}
use Rattle.iso_history.specs.Legal.{Allowed}
use Rattle.iso_history.specs.Units.{unit_of_maker}
use Rattle.iso_history.specs.Versions.{change_of}
use Rattle.iso_history.specs.World.{World}
use Rattle.iso_history.specs.declared.entry.Entry.{Entry}
use Rattle.iso_types.specs.declared.head.Head.{Head}

pairs-count : (head : Head) (w : World) (ch : Pairing) → HasParts head w → length (entries_by head w ch) ≡ length head.indexes
pairs-count head w Same parts = parts.entries
pairs-count head w (Gains t r row) parts = entries-count head w t r row
pairs-count head w (Loses i key r) parts = length-set w.entries i.0 (without_pair (key, r) (entries_of w i)) ∙ parts.entries

pub parts-after : (head : Head) (w : World) (e : Entry) → Allowed head w e → LocksSound head w → HasParts head (after head w e)
parts-after head w e al s = record {
  tables = tables-count w (unit_of_maker w e.who) (change_of e.act) ∙ s.parts.tables;
  entries = pairs-count head w (pairing_of e.act) s.parts;
}

pub start-parts : (head : Head) → HasParts head (start head)
start-parts head = record { tables = simp (length-map, length-range_with_len); entries = simp (length-map, length-range_with_len) }
