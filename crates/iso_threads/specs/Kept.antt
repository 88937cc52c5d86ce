-- What the author of each voice keeps to.
use Rattle.std.specs.Prelude.{◌≡◌, ℕ, zero, suc, true, List, ◌++◌}
use Rattle.iso_conduct.specs.Conduct.{Conduct}
use Rattle.iso_conduct.specs.Pacing.{Paced}
use Rattle.iso_history.specs.After.{world}
use Rattle.iso_history.specs.declared.entry.Entry.{Entry}
use Rattle.iso_latch.specs.Seen.{has}
use Rattle.iso_script.specs.declared.script.Script.{Script}

-- the dispatcher keeps to the lines, the agent of a connection to its statements
abbrev pub Keeps : Script → ℕ → List Entry → Type 0
Keeps script zero es = Paced script.head script.lines es
Keeps script (suc c) es = Conduct script.head script.lines es (record { 0 = c })

-- the author of each of these voices keeps to its part
abbrev pub AllKeep : Script → List ℕ → List Entry → Type 0
AllKeep script voices es = (x : ℕ) → has x voices ≡ true → Keeps script x es

-- the history goes on from this one
abbrev pub Begins : List Entry → List Entry → Type 0
Begins old new = (rest : List Entry) × (new ≡ old ++ rest)

-- a beginning of the history has finished
abbrev pub HasFinished : Script → List Entry → Type 0
HasFinished script es = (before : List Entry) × ((world script.head before).pace.finished ≡ true) × Begins before es
