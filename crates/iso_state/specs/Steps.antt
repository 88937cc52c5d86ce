-- What a step asks before it writes, and what it leaves.
use Rattle.std.specs.Prelude.{◌≡◌, ◌≤◌, ◌<◌, ◌+◌, ℕ, Bool, false, length, nat_lt}
use Rattle.iso_history.specs.Stops.{history_limit}
use Rattle.iso_state.specs.Stands.{Content, content_of}
use Rattle.iso_state.specs.declared.parts.Parts.{Parts}

-- the entries and the reserves, with so many more for a step, pass the history's limit: 1 for a step that leaves the
-- reserves, 0 for a request that times out, 2 for a change, 3 for a Dispatch that begins a unit
abbrev pub is_past : Content → ℕ → Bool
is_past p more = nat_lt history_limit (length p.history + p.reserved + more)

-- a step with so many more is not past the limit, and the history has room for its entry and for all that is owed then
pub record IsReady (p : Parts) (more : ℕ) : Type 0 where
  pub fits : is_past (content_of p) more ≡ false
  pub spare : p.reserved + 3 ≤ p.history.spare

-- what a call leaves of the history's room and of the log's: it takes this much of the first, and nothing of the second
pub record Spares (more h l new_h new_l : ℕ) : Type 0 where
  pub history : h ≤ new_h + more
  pub log : l ≤ new_l

-- the room is as it was, or more
abbrev pub KeepsRoom : Parts → Parts → Type 0
KeepsRoom old new = Spares 0 old.history.spare old.log.spare new.history.spare new.log.spare

-- one entry is added to the history, and no record to the log
abbrev pub Spends : Parts → Parts → Type 0
Spends old new = Spares 1 old.history.spare old.log.spare new.history.spare new.log.spare
