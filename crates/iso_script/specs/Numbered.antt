-- The line numbers of a script rise.
use Rattle.std.specs.Prelude.{ℕ, Bool, true, ◌&&◌, List, [], ◌∷◌, nat_lt}
use Rattle.iso_script.specs.declared.script.Line.{Line}

-- the lines' numbers rise, all above this one
abbrev pub rises_above : ℕ → List Line → Bool
rises_above n [] = true
rises_above n (l ∷ ls) = nat_lt n l.number && rises_above l.number ls
