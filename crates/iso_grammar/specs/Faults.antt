-- What is wrong with a line, and where; of several faults the least is told. // this project's own
use Rattle.std.specs.Option.{option_map_or}
use Rattle.std.specs.Prelude.{ℕ, ◌+◌, ◌-◌, Bool, ◌&&◌, ◌||◌, if◌then◌else◌, ◌==◌, nat_lt, List, length, slice_get, Option, Some, None}
use Rattle.iso_grammar.specs.declared.fault.Cause.{Cause}
use Rattle.iso_grammar.specs.declared.fault.Cause.TheVariants.{Unknown, TypeFault, Duplicate, Limit}
use Rattle.iso_grammar.specs.declared.fault.Checked.{Checked}
use Rattle.iso_grammar.specs.declared.fault.Fault.{Fault}
use Rattle.iso_grammar.specs.declared.token.Token.{Token}

-- the order of causes at one place
abbrev pub rank : Cause → ℕ
rank Unknown = 0
rank TypeFault = 1
rank Duplicate = 2
rank Limit = 3

-- at a lower place, or of an earlier cause at the same
abbrev pub is_sooner : Fault → Fault → Bool
is_sooner a b = nat_lt a.place b.place || (a.place == b.place && nat_lt (rank a.cause) (rank b.cause))

-- the least of two
unfoldable pub least : Option Fault → Option Fault → Option Fault
least None b = b
least (Some a) None = Some a
least (Some a) (Some b) = if is_sooner b a then Some b else Some a

-- at this token
unfoldable pub at : Token → Cause → Option Fault
at t cause = Some (record { place = t.start; cause = cause })

-- at this token, unless all is well
unfoldable pub unless : Bool → Token → Cause → Option Fault
unless well t cause = if well then None else at t cause

-- what tokens stand for, with their least fault
abbrev pub checked : {A : Type 0} → A → Option Fault → Checked A
checked x f = record { value = x; fault = f }

-- The place where so many tokens are left: that of the first of them; behind the last token it is the line's length plus 1.
unfoldable pub place_of : List Token → ℕ → ℕ → ℕ
place_of tokens left length_of_line = option_map_or (λ t. t.start) (slice_get tokens (length tokens - left)) (length_of_line + 1)
