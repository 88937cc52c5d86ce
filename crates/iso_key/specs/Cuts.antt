-- Where a search begins: which entries stand behind the cut.
use Rattle.std.specs.Prelude.{Bool, true, false, not, List, [], ◌∷◌, Option, Some, None, if◌then◌else◌}
use Rattle.iso_types.specs.Ids.{pair_lt}
use Rattle.iso_types.specs.Value.{value_lt}
use Rattle.iso_types.specs.declared.head.Edge.{Edge}
use Rattle.iso_types.specs.declared.value.Rid.{Rid}
use Rattle.iso_types.specs.declared.value.Value.{Value}
use Rattle.iso_key.specs.declared.cut.Cut.{Cut}
use Rattle.iso_key.specs.declared.cut.Cut.TheVariants.{After, AfterKey, First, From, FromKey}

-- the entry stands behind the cut
abbrev pub passes : Cut → Value × Rid → Bool
passes First p = true
passes (FromKey v) p = not (value_lt p.0 v)
passes (AfterKey v) p = value_lt v p.0
passes (From v r) p = not (pair_lt p (v, r))
passes (After v r) p = pair_lt (v, r) p

-- the page's least entry stands behind the cut
abbrev pub starts_behind : Cut → List (Value × Rid) → Bool
starts_behind cut [] = false
starts_behind cut (p ∷ ps) = passes cut p

-- the cut before the first key that meets the low bound
abbrev pub low_cut : Option Edge → Cut
low_cut None = First
low_cut (Some e) = if e.inclusive then FromKey e.value else AfterKey e.value
