-- Lines whose numbers rise.
use Rattle.std.specs.Prelude.{Bool, true, List, [], ◌∷◌}
use Rattle.iso_script.specs.Numbered.{rises_above}
use Rattle.iso_script.specs.declared.script.Line.{Line}

-- each line has a greater number than the one before it
abbrev pub rises : List Line → Bool
rises [] = true
rises (l ∷ ls) = rises_above l.number ls
