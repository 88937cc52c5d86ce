-- The tokens of a line.
use Rattle.std.specs.Prelude.{ℕ, zero, suc, ◌+◌, ◌-◌, Bool, true, false, not, ◌&&◌, ◌||◌, if◌then◌else◌, ◌==◌, nat_le, List, [], ◌∷◌, length, take, take_while, Option, Some, None, codes}
use Rattle.std.specs.Option.{option_map}
use Rattle.std.specs.Str.{str_eq_ignore_ascii_case}
use Rattle.iso_grammar.specs.declared.token.Kind.{Kind}
use Rattle.iso_grammar.specs.declared.token.Kind.TheVariants as k
use Rattle.iso_grammar.specs.declared.token.Token.{Token}

-- a space or a tab
abbrev pub is_blank : ℕ → Bool
is_blank b = b == 32 || b == 9

abbrev pub is_digit : ℕ → Bool
is_digit b = nat_le 48 b && nat_le b 57

abbrev pub is_letter : ℕ → Bool
is_letter b = (nat_le 65 b && nat_le b 90) || (nat_le 97 b && nat_le b 122)

abbrev pub in_word : ℕ → Bool
in_word b = is_letter b || (is_digit b || b == 95)

-- how many bytes at the front pass the test
abbrev pub run_of : (ℕ → Bool) → List ℕ → ℕ
run_of p bytes = length (take_while p bytes)

-- the words of the grammar, in small letters
abbrev pub keywords : List (List ℕ × Kind)
keywords =
    (codes "and", k.And)
    ∷ (codes "begin", k.Begin)
    ∷ (codes "between", k.Between)
    ∷ (codes "bigint", k.Bigint)
    ∷ (codes "commit", k.Commit)
    ∷ (codes "config", k.Config)
    ∷ (codes "connect", k.Connect)
    ∷ (codes "count", k.Count)
    ∷ (codes "cs", k.Cs)
    ∷ (codes "cur_commit", k.CurCommit)
    ∷ (codes "current", k.Current)
    ∷ (codes "cursors", k.Cursors)
    ∷ (codes "db2iso", k.Db2iso)
    ∷ (codes "delete", k.Delete)
    ∷ (codes "disabled", k.Disabled)
    ∷ (codes "end", k.End)
    ∷ (codes "exclusive", k.Exclusive)
    ∷ (codes "expire", k.Expire)
    ∷ (codes "from", k.From)
    ∷ (codes "in", k.In)
    ∷ (codes "index", k.Index)
    ∷ (codes "insert", k.Insert)
    ∷ (codes "integer", k.IntegerWord)
    ∷ (codes "into", k.Into)
    ∷ (codes "is", k.Is)
    ∷ (codes "isolation", k.Isolation)
    ∷ (codes "lock", k.Lock)
    ∷ (codes "locklist", k.Locklist)
    ∷ (codes "logmax", k.Logmax)
    ∷ (codes "maxlocks", k.Maxlocks)
    ∷ (codes "mode", k.Mode)
    ∷ (codes "not", k.Not)
    ∷ (codes "null", k.Null)
    ∷ (codes "on", k.On)
    ∷ (codes "or", k.Or)
    ∷ (codes "reset", k.Reset)
    ∷ (codes "retain", k.Retain)
    ∷ (codes "rollback", k.Rollback)
    ∷ (codes "row", k.Row)
    ∷ (codes "rr", k.Rr)
    ∷ (codes "rs", k.Rs)
    ∷ (codes "savepoint", k.Savepoint)
    ∷ (codes "select", k.Select)
    ∷ (codes "set", k.Set)
    ∷ (codes "share", k.Share)
    ∷ (codes "snapshot", k.Snapshot)
    ∷ (codes "table", k.Table)
    ∷ (codes "timeout", k.Timeout)
    ∷ (codes "to", k.To)
    ∷ (codes "unique", k.Unique)
    ∷ (codes "update", k.Update)
    ∷ (codes "ur", k.Ur)
    ∷ (codes "values", k.Values)
    ∷ (codes "varchar", k.Varchar)
    ∷ (codes "wait", k.Wait)
    ∷ (codes "where", k.Where)
    ∷ (codes "window", k.Window)
    ∷ (codes "with", k.With)
    ∷ (codes "work", k.Work) ∷ []

-- the kind of a word in a table, in any case; a word that is not there is a name
abbrev pub lookup : List (List ℕ × Kind) → List ℕ → Kind
lookup [] word = k.Name
lookup (entry ∷ table) word = if str_eq_ignore_ascii_case entry.0 word then entry.1 else lookup table word

-- a word of the grammar, or else a name
unfoldable pub word_kind : List ℕ → Kind
word_kind word = lookup keywords word

-- zeros, and then a 1
abbrev pub is_one : List ℕ → Bool
is_one [] = false
is_one (b ∷ []) = b == 49
is_one (b ∷ c ∷ bs) = b == 48 && is_one (c ∷ bs)

-- the integer 1 has a kind of its own
unfoldable pub digits_kind : List ℕ → Kind
digits_kind digits = if is_one digits then k.One else k.Integer

-- CR or LF, which no text holds
abbrev pub ends_line : ℕ → Bool
ends_line b = b == 13 || b == 10

-- How many bytes a text takes behind its opening quote, the closing one among them; none where it is unfinished: where the line
-- ends, or a CR or LF stands, before its closing quote. The test says that the byte before is a quote that may close it.
abbrev pub text_from : Bool → List ℕ → Option ℕ
text_from closes [] = if closes then Some 0 else None
text_from closes (b ∷ bs) =
    if b == 39 then option_map (λ n. n + 1) (text_from (not closes) bs)
    else (if closes then Some 0 else (if ends_line b then None else option_map (λ n. n + 1) (text_from false bs)))

-- a text, or else the quote alone, which is of no line
abbrev pub text_token : Option ℕ → Kind × ℕ
text_token None = (k.Other, 1)
text_token (Some n) = (k.Text, n + 1)

-- a symbol of one byte
abbrev pub symbol : ℕ → Kind
symbol b =
    if b == 40 then k.Open
    else (if b == 41 then k.Close
    else (if b == 44 then k.Comma
    else (if b == 58 then k.Colon
    else (if b == 59 then k.Semicolon
    else (if b == 38 then k.Ampersand
    else (if b == 42 then k.Star
    else (if b == 61 then k.Equal
    else (if b == 60 then k.Less
    else (if b == 62 then k.Greater
    else (if b == 43 then k.Plus
    else (if b == 45 then k.Minus
    else k.Other)))))))))))

-- the list begins with this byte
abbrev pub begins_with : ℕ → List ℕ → Bool
begins_with c [] = false
begins_with c (b ∷ bs) = b == c

-- the symbol that begins with this byte, and its length; the longest counts
abbrev pub symbol_at : ℕ → List ℕ → Kind × ℕ
symbol_at b bs =
    if b == 60 && begins_with 62 bs then (k.NotEqual, 2)
    else (if b == 60 && begins_with 61 bs then (k.LessEqual, 2)
    else (if b == 62 && begins_with 61 bs then (k.GreaterEqual, 2)
    else (symbol b, 1)))

abbrev pub begins_digit : List ℕ → Bool
begins_digit [] = false
begins_digit (b ∷ bs) = is_digit b

-- The kind of the token that begins with this byte, and its length. The test says that a name stands before it.
unfoldable pub token_at : Bool → ℕ → List ℕ → Kind × ℕ
token_at after_name b bs =
    if is_letter b then (word_kind (take (run_of in_word bs + 1) (b ∷ bs)), run_of in_word bs + 1)
    else (if is_digit b then (digits_kind (take (run_of is_digit bs + 1) (b ∷ bs)), run_of is_digit bs + 1)
    else (if b == 45 && (not after_name && begins_digit bs) then (k.Integer, run_of is_digit bs + 1)
    else (if b == 39 then text_token (text_from false bs)
    else symbol_at b bs)))

abbrev pub is_name : Kind → Bool
is_name k.Name = true
is_name _ = false

abbrev pub token : ℕ → Kind × ℕ → Token
token at found = record { kind = found.0; start = at + 1; end = at + found.1 }

-- The tokens from the place on that so many bytes stand before. The second number counts the bytes left of a token, and the test says that a name came last.
abbrev pub tokens_from : ℕ → ℕ → Bool → List ℕ → List Token
tokens_from at left after_name [] = []
tokens_from at (suc left) after_name (b ∷ bs) = tokens_from (at + 1) left after_name bs
tokens_from at zero after_name (b ∷ bs) =
    if is_blank b then tokens_from (at + 1) 0 after_name bs
    else token at (token_at after_name b bs) ∷ tokens_from (at + 1) ((token_at after_name b bs).1 - 1) (is_name (token_at after_name b bs).0) bs

-- the tokens of a line
unfoldable pub tokens : List ℕ → List Token
tokens line = tokens_from 0 0 false line

-- no token
abbrev pub is_nothing : List Token → Bool
is_nothing [] = true
is_nothing (t ∷ ts) = false

-- the line begins with two dashes
abbrev pub is_comment : List ℕ → Bool
is_comment [] = false
is_comment (b ∷ bs) = b == 45 && begins_with 45 bs

-- a line that says nothing: a comment, or one without a token
abbrev pub is_skipped : List ℕ → Bool
is_skipped line = is_comment line || is_nothing (tokens line)
