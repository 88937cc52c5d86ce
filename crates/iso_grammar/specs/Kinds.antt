-- Kinds of tokens, told apart by a number.
use Rattle.std.specs.Prelude.{ℕ, Bool, true, false, ◌==◌, ◌||◌, ◌&&◌, not, List, [], ◌∷◌}
use Rattle.iso_grammar.specs.declared.token.Kind.{Kind}
use Rattle.iso_grammar.specs.declared.token.Kind.TheVariants as k

abbrev pub number_of : Kind → ℕ
number_of k.And = 0
number_of k.Begin = 1
number_of k.Between = 2
number_of k.Bigint = 3
number_of k.Commit = 4
number_of k.Config = 5
number_of k.Connect = 6
number_of k.Count = 7
number_of k.Cs = 8
number_of k.CurCommit = 9
number_of k.Current = 10
number_of k.Cursors = 11
number_of k.Db2iso = 12
number_of k.Delete = 13
number_of k.Disabled = 14
number_of k.End = 15
number_of k.Exclusive = 16
number_of k.Expire = 17
number_of k.From = 18
number_of k.In = 19
number_of k.Index = 20
number_of k.Insert = 21
number_of k.IntegerWord = 22
number_of k.Into = 23
number_of k.Is = 24
number_of k.Isolation = 25
number_of k.Lock = 26
number_of k.Locklist = 27
number_of k.Logmax = 28
number_of k.Maxlocks = 29
number_of k.Mode = 30
number_of k.Not = 31
number_of k.Null = 32
number_of k.On = 33
number_of k.Or = 34
number_of k.Reset = 35
number_of k.Retain = 36
number_of k.Rollback = 37
number_of k.Row = 38
number_of k.Rr = 39
number_of k.Rs = 40
number_of k.Savepoint = 41
number_of k.Select = 42
number_of k.Set = 43
number_of k.Share = 44
number_of k.Snapshot = 45
number_of k.Table = 46
number_of k.Timeout = 47
number_of k.To = 48
number_of k.Unique = 49
number_of k.Update = 50
number_of k.Ur = 51
number_of k.Values = 52
number_of k.Varchar = 53
number_of k.Wait = 54
number_of k.Where = 55
number_of k.Window = 56
number_of k.With = 57
number_of k.Work = 58
number_of k.One = 59
number_of k.Integer = 60
number_of k.Name = 61
number_of k.Text = 62
number_of k.Open = 63
number_of k.Close = 64
number_of k.Comma = 65
number_of k.Colon = 66
number_of k.Semicolon = 67
number_of k.Ampersand = 68
number_of k.Star = 69
number_of k.Equal = 70
number_of k.NotEqual = 71
number_of k.Less = 72
number_of k.LessEqual = 73
number_of k.Greater = 74
number_of k.GreaterEqual = 75
number_of k.Plus = 76
number_of k.Minus = 77
number_of k.Other = 78

abbrev pub same_kind : Kind → Kind → Bool
same_kind a b = number_of a == number_of b

-- a set of kinds
abbrev pub Kinds : Type 0
Kinds = List Kind

abbrev pub has : Kinds → Kind → Bool
has [] c = false
has (j ∷ ks) c = same_kind j c || has ks c

-- no kind is in both
abbrev pub apart : Kinds → Kinds → Bool
apart [] ks = true
apart (j ∷ js) ks = not (has ks j) && apart js ks
