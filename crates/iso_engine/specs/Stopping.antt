-- The exit status that the stops of a history give. // this project's own
use Rattle.std.specs.List.{list_any}
use Rattle.std.specs.Prelude.{ℕ, Bool, true, false, List, if◌then◌else◌}
use Rattle.iso_conduct.specs.Conduct.{stops_for_memory}
use Rattle.iso_history.specs.declared.entry.Act.{Act}
use Rattle.iso_history.specs.declared.entry.Act.TheVariants.{Stopped}
use Rattle.iso_history.specs.declared.entry.Cause.{Cause}
use Rattle.iso_history.specs.declared.entry.Entry.{Entry}

-- a stop at a limit: at that of the history, or of a table
abbrev pub stops_at_limit : Act → Bool
stops_at_limit (Stopped Cause.History) = true
stops_at_limit (Stopped Cause.Table) = true
stops_at_limit _ = false

-- somebody stopped for want of memory
abbrev pub has_memory_stop : List Entry → Bool
has_memory_stop es = list_any (λ e. stops_for_memory e.act) es

-- somebody stopped at a limit
abbrev pub has_limit_stop : List Entry → Bool
has_limit_stop es = list_any (λ e. stops_at_limit e.act) es

-- 5: somebody stopped for want of memory; 6: somebody stopped at a limit, and nobody for want of memory; 0: nobody stopped
abbrev pub status_of : List Entry → ℕ
status_of es = if has_memory_stop es then 5 else if has_limit_stop es then 6 else 0
