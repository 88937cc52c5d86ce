-- How a lock ends.
use Rattle.std.specs.Prelude.{Bool, true, false}
use Rattle.iso_modes.specs.declared.Term.{Term}
use Rattle.iso_modes.specs.declared.Term.TheVariants.{Brief, Fresh, Kept}

-- the term is Kept
abbrev pub is_kept : Term → Bool
is_kept Kept = true
is_kept _ = false

-- the term is Brief
abbrev pub is_brief : Term → Bool
is_brief Brief = true
is_brief _ = false

-- the term is Fresh
abbrev pub is_fresh : Term → Bool
is_fresh Fresh = true
is_fresh _ = false
