-- What the bytes of a token say.
use Rattle.std.specs.Option.{option_map}
use Rattle.std.specs.Prelude.{ℕ, Bool, true, false, not, ◌+◌, ◌-◌, ◌*◌, ◌&&◌, if◌then◌else◌, ◌==◌, nat_le, List, [], ◌∷◌, length, take, drop, map, ℤ, pos, negsuc, neg_ℤ, int_le, Option, Some, None}
use Rattle.std.specs.Char.{to_ascii_uppercase}
use Rattle.iso_types.specs.declared.value.Value.{Value}
use Rattle.iso_types.specs.declared.value.Value.TheVariants as value
use Rattle.iso_grammar.specs.declared.token.Kind.{Kind}
use Rattle.iso_grammar.specs.declared.token.Kind.TheVariants as k
use Rattle.iso_grammar.specs.declared.token.Token.{Token}

-- the token's bytes in its line
unfoldable pub text_of : List ℕ → Token → List ℕ
text_of line t = if nat_le 1 t.start && (nat_le t.start t.end && nat_le t.end (length line)) then take (t.end - (t.start - 1)) (drop (t.start - 1) line) else []

-- a name: in capital letters, of at most 32 bytes
unfoldable pub name : List ℕ → Option (List ℕ)
name bytes = if nat_le (length bytes) 32 then Some (map to_ascii_uppercase bytes) else None

-- the number that the digits write behind those of n
abbrev pub number_after : ℕ → List ℕ → ℕ
number_after n [] = n
number_after n (b ∷ bs) = number_after (n * 10 + (b - 48)) bs

-- the number that a sign and digits write
abbrev pub signed : List ℕ → ℤ
signed [] = pos 0
signed (b ∷ bs) = if b == 45 then neg_ℤ (pos (number_after 0 bs)) else pos (number_after 0 (b ∷ bs))

-- the number, where it fits signed 64 bits
abbrev pub fitted : ℤ → Option ℤ
fitted z = if int_le (negsuc 9223372036854775807) z && int_le z (pos 9223372036854775807) then Some z else None

-- the value of an integer token
unfoldable pub integer : List ℕ → Option ℤ
integer bytes = fitted (signed bytes)

-- at most so much
abbrev pub at_most : ℕ → ℕ → Option ℕ
at_most most n = if nat_le n most then Some n else None

-- What a text says behind its opening quote: a doubled quote is one. The test says that the byte before is a quote that may close it.
abbrev pub said : Bool → List ℕ → List ℕ
said closes [] = []
said closes (b ∷ bs) = if b == 39 && not closes then said true bs else b ∷ said false bs

-- all but the first byte
abbrev pub behind_first : List ℕ → List ℕ
behind_first [] = []
behind_first (b ∷ bs) = bs

-- a text, of at most 32 bytes
abbrev pub short : List ℕ → Option (List ℕ)
short bytes = if nat_le (length bytes) 32 then Some bytes else None

-- what a text token says, where it has at most 32 bytes
unfoldable pub text : List ℕ → Option (List ℕ)
text bytes = short (said false (behind_first bytes))

-- what a literal's bytes say, by its kind
abbrev pub literal : Kind → List ℕ → Option Value
literal k.Null bytes = Some value.Null
literal k.Text bytes = option_map value.Text (text bytes)
literal _ bytes = option_map value.Int (integer bytes)

-- the value of a literal, where its text has at most 32 bytes and its integer at most 64 bits
unfoldable pub value_of : List ℕ → Token → Option Value
value_of line t = literal t.kind (text_of line t)
