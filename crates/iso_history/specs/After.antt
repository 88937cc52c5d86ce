-- The world after an entry, and after a history.
use Rattle.std.specs.Prelude.{◌+◌, false, List, [], ◌∷◌, None}
use Rattle.iso_history.specs.Entries.{entries_by, first_entries, pairing_of}
use Rattle.iso_history.specs.Holds.{holds_by}
use Rattle.iso_history.specs.Lasts.{due_by, last_by}
use Rattle.iso_history.specs.Lines.{floor_by, line_by, stage_of}
use Rattle.iso_history.specs.Marks.{marks_by}
use Rattle.iso_history.specs.Changes.{changes_by}
use Rattle.iso_history.specs.Paces.{pace_by}
use Rattle.iso_history.specs.Phases.{closing_by, doom_by, doom_of, ended_by}
use Rattle.iso_history.specs.Records.{count, records_by}
use Rattle.iso_history.specs.Settings.{first_setting, setting_by}
use Rattle.iso_history.specs.Units.{begun_by, turn_of, unit_by, unit_of_maker}
use Rattle.iso_history.specs.Versions.{change_of, first_tables, tables_by}
use Rattle.iso_history.specs.Waits.{joining_of, waits_by}
use Rattle.iso_history.specs.World.{World}
use Rattle.iso_history.specs.World.Last.{Other}
use Rattle.iso_history.specs.declared.entry.Entry.{Entry}
use Rattle.iso_types.specs.declared.head.Head.{Head}

-- the world after one more entry
abbrev pub after : Head → World → Entry → World
after head w e = record {
  made = w.made + 1;
  begun = begun_by w (turn_of e.who e.act);
  unit = unit_by w (turn_of e.who e.act);
  line = line_by w.line (stage_of e.who e.act);
  floor = floor_by w.floor (stage_of e.who e.act) (count w);
  setting = setting_by w.setting e.who e.act;
  doom = doom_by w.doom (doom_of w e.who e.act);
  closing = closing_by w.closing e.who e.act;
  ended = ended_by w.ended e.who e.act;
  tables = tables_by w (unit_of_maker w e.who) (change_of e.act);
  records = records_by w (unit_of_maker w e.who) (change_of e.act);
  changes = changes_by w (change_of e.act);
  entries = entries_by head w (pairing_of e.act);
  holds = holds_by head w e.who e.act;
  waits = waits_by w (joining_of w e.who e.act);
  marks = marks_by w e.who e.act;
  last = last_by w.last e.who e.act;
  due = due_by w e.who e.act;
  pace = pace_by w.pace e.who e.act;
}

-- the world of the empty history
abbrev pub start : Head → World
start head = record {
  made = 0;
  begun = 0;
  unit = λ c. None;
  line = λ c. None;
  floor = λ c. 0;
  setting = first_setting head;
  doom = λ c. None;
  closing = λ c. false;
  ended = λ c. false;
  tables = first_tables head;
  records = [];
  changes = [];
  entries = first_entries head;
  holds = [];
  waits = [];
  marks = λ c. [];
  last = λ c. Other;
  due = λ c. None;
  pace = record { purged = false; stopped = false; halted = false; finished = false };
}

-- the world after a list of entries, from a world on
unfoldable pub world_from : Head → World → List Entry → World
world_from head w [] = w
world_from head w (e ∷ es) = world_from head (after head w e) es

-- the world of a history
unfoldable pub world : Head → List Entry → World
world head es = world_from head (start head) es
