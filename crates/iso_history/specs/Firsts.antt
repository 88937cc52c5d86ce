-- The first record of each open unit.
use Rattle.std.specs.List.{position_or_len}
use Rattle.std.specs.Option.{option_map_or}
use Rattle.std.specs.Prelude.{ℕ, List, [], ◌∷◌, min, ◌==◌}
use Rattle.iso_history.specs.Records.{count}
use Rattle.iso_history.specs.World.{World}
use Rattle.iso_types.specs.declared.value.Conn.{Conn}

-- the number of the first record of the connection's open unit, and `count` where there is none
abbrev pub first_of : World → Conn → ℕ
first_of w c = option_map_or (λ u. position_or_len (λ n. u == n.unit) w.records) (w.unit c) (count w)

-- the least of these values, and of one more
abbrev pub least_of : (Conn → ℕ) → List Conn → ℕ → ℕ
least_of f [] top = top
least_of f (c ∷ cs) top = min (f c) (least_of f cs top)
