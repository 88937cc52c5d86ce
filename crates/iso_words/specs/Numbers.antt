-- The numbers of the command line. // this project's own
use Rattle.std.specs.Prelude.{ℕ, ◌+◌, ◌-◌, ◌*◌, ◌^◌, ◌&&◌, Bool, true, List, [], ◌∷◌, Option, Some, None, if◌then◌else◌, length, nat_le, nat_lt}

-- one more than the greatest number that an option may have
abbrev pub bound : ℕ
bound = 2 ^ 64

abbrev pub is_digit : ℕ → Bool
is_digit b = nat_le 48 b && nat_le b 57

abbrev pub are_digits : List ℕ → Bool
are_digits [] = true
are_digits (b ∷ bytes) = is_digit b && are_digits bytes

-- what digits behind the number n make of it
abbrev pub value_from : ℕ → List ℕ → ℕ
value_from n [] = n
value_from n (b ∷ bytes) = value_from (10 * n + (b - 48)) bytes

-- n, where it is below the bound
abbrev pub below : ℕ → Option ℕ
below n = if nat_lt n bound then Some n else None

-- 1 to 20 digits
abbrev pub has_form : List ℕ → Bool
has_form text = nat_le 1 (length text) && nat_le (length text) 20

-- a number of 1 to 20 digits, which is below the bound
abbrev pub number : List ℕ → Option ℕ
number text = if has_form text then (if are_digits text then below (value_from 0 text) else None) else None

-- how many lines may be generated
abbrev pub is_count : ℕ → Bool
is_count m = nat_le 1 m && nat_le m 10000
