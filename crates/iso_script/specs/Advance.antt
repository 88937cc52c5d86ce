-- What a line does to what was read before it.
use Rattle.std.specs.Prelude.{ℕ, true, [], ◌∷◌, ◌++◌}
use Rattle.iso_types.specs.declared.head.Config.{Config}
use Rattle.iso_types.specs.declared.head.Head.{Head}
use Rattle.iso_script.specs.declared.event.Event.{Event}
use Rattle.iso_script.specs.declared.event.Event.TheVariants as event
use Rattle.iso_script.specs.declared.event.Setting.{Setting}
use Rattle.iso_script.specs.declared.event.Setting.TheVariants as setting
use Rattle.iso_script.specs.declared.event.Settings.{Settings}
use Rattle.iso_script.specs.declared.reader.Place.TheVariants as place
use Rattle.iso_script.specs.declared.reader.Reader.{Reader}

-- the settings with this one
abbrev pub with_setting : Config → Setting → Config
with_setting c (setting.CurCommit on) = record c { cur_commit = on }
with_setting c (setting.Locklist n) = record c { locklist = n }
with_setting c (setting.Maxlocks n) = record c { maxlocks = n }
with_setting c (setting.Logmax n) = record c { logmax = n }
with_setting c (setting.Window n) = record c { window = n }

-- the settings that were declared, with this one
abbrev pub with_set : Settings → Setting → Settings
with_set s (setting.CurCommit on) = record s { cur_commit = true }
with_set s (setting.Locklist n) = record s { locklist = true }
with_set s (setting.Maxlocks n) = record s { maxlocks = true }
with_set s (setting.Logmax n) = record s { logmax = true }
with_set s (setting.Window n) = record s { window = true }

-- the same with another head, the same lines
abbrev pub with_head : Reader → Head → Reader
with_head s head = record s { script = record { head = head; lines = s.script.lines } }

-- the state behind an event in the line with this number
abbrev pub advance : Reader → ℕ → Event → Reader
advance s n event.First = record s { place = place.Head }
advance s n (event.Config x) = record (with_head s (record s.script.head { config = with_setting s.script.head.config x })) { set = with_set s.set x }
advance s n (event.Table d) = with_head s (record s.script.head { tables = s.script.head.tables ++ d ∷ [] })
advance s n (event.Index d) = with_head s (record s.script.head { indexes = s.script.head.indexes ++ d ∷ [] })
advance s n (event.Row f) = with_head s (record s.script.head { rows = s.script.head.rows ++ f ∷ [] })
advance s n (event.Connect d) = with_head s (record s.script.head { conns = s.script.head.conns ++ d ∷ [] })
advance s n event.Begin = record s { place = place.Body }
advance s n (event.Asked c free w) =
    record s { script = record { head = s.script.head; lines = s.script.lines ++ record { number = n; conn = c; free = free; what = w } ∷ [] } }
advance s n event.End = record s { place = place.After }
