-- The undo of a unit's last record, and the end of what has none left.
use Rattle.std.proofs.Common.{◌≡◌, ℕ, Bool, true, false, not, List, [], ◌∷◌, ◌++◌, refl, Option, Some, None, arith}
use Rattle.std.proofs.lemmas.Bool.Decides.{nat_tests}
use Rattle.std.specs.Option.{option_map_or}
use Rattle.std.specs.Prelude.{nat_lt, slice_get, unwrap_or}
use Rattle.iso_conduct.specs.Conduct.{closing_act}
use Rattle.iso_history.specs.Makers.{by_agent}
use Rattle.iso_history.specs.Outcomes.{last_record}
use Rattle.iso_history.specs.Records.{left, left_of}
use Rattle.iso_history.specs.World.{World}
use Rattle.iso_history.specs.declared.entry.Act.TheVariants.{Undo}
use Rattle.iso_history.specs.declared.entry.Entry.{Entry}
use Rattle.iso_types.specs.declared.value.Conn.{Conn}

-- something is left at or above this floor
abbrev is_left : Option ℕ → ℕ → Bool
is_left o floor = option_map_or (λ n. not (nat_lt n floor)) o false

-- the record that is undone is the last one
pub undo-entry : (o : Option ℕ) (floor : ℕ) (es new : List Entry) (c : Conn) → is_left o floor ≡ true
    → ((n : ℕ) → o ≡ Some n → new ≡ es ++ by_agent c (Undo n) ∷ []) → new ≡ es ++ by_agent c (Undo (unwrap_or o 0)) ∷ []
undo-entry None floor es new c e ok = absurd (cc)
undo-entry (Some n) floor es new c e ok = ok n refl

-- so it is of a closing connection
pub closing-entry : (o : Option ℕ) (es new : List Entry) (c : Conn) → is_left o 0 ≡ true
    → ((n : ℕ) → o ≡ Some n → new ≡ es ++ by_agent c (Undo n) ∷ []) → new ≡ es ++ by_agent c (closing_act o) ∷ []
closing-entry None es new c e ok = absurd (cc)
closing-entry (Some n) es new c e ok = ok n refl

-- nothing is left above the first record: there is none
pub none-last : (o : Option ℕ) → is_left o 0 ≡ false → o ≡ None
none-last None e = refl
none-last (Some n) e = absurd (never n e)
  where
    never : (n : ℕ) → not (nat_lt n 0) ≡ false → ⊥
    never n e = grind (arith, nat_tests)

pub none-left : (w : World) (c : Conn) → last_record w c ≡ None → left_of w c ≡ []
none-left w c e = go (w.unit c) e
  where
    first : (xs : List ℕ) → slice_get xs 0 ≡ None → xs ≡ []
    first [] h = refl
    first (x ∷ xs) h = absurd (cc)

    go : (o : Option ℕ) → slice_get (left w.records (unwrap_or o 0)) 0 ≡ None → option_map_or (left w.records) o [] ≡ []
    go None h = refl
    go (Some u) h = first (left w.records u) h
