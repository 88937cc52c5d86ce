-- What a cursor shows.
use Rattle.std.specs.Prelude.{◌≤◌, length}
use Rattle.iso_grammar.specs.declared.tokens.Tokens.TheInside.{Inside}
use Rattle.iso_grammar.specs.Reading.{Input}

abbrev pub input_of : Inside → Input
input_of t = record { rest = t.rest.now; most = t.most }

abbrev pub IsBounded : Inside → Type 0
IsBounded t = length t.rest.now ≤ t.most
