-- Kinds that have the same number are the same.
use Rattle.std.proofs.Common.{◌≡◌, ℕ, zero, suc, Bool, true, false, not, List, [], ◌∷◌, refl, sym, ap, ◌∙◌}
use Rattle.std.specs.Prelude.{◌&&◌, ◌||◌}
use Rattle.std.proofs.lemmas.Bool.{eqb-true}
use Rattle.iso_grammar.specs.declared.token.Kind.{Kind}
use Rattle.iso_grammar.specs.declared.token.Kind.TheVariants as k
use Rattle.iso_grammar.specs.Kinds.{number_of, same_kind, Kinds, has, apart}

abbrev kind_at : List Kind → ℕ → Kind
kind_at [] n = k.Other
kind_at (j ∷ ks) zero = j
kind_at (j ∷ ks) (suc n) = kind_at ks n

all : List Kind
all = k.And ∷ k.Begin ∷ k.Between ∷ k.Bigint ∷ k.Commit ∷ k.Config ∷ k.Connect ∷ k.Count ∷ k.Cs ∷ k.CurCommit ∷ k.Current ∷ k.Cursors ∷ k.Db2iso ∷ k.Delete ∷ k.Disabled ∷ k.End ∷ k.Exclusive ∷ k.Expire ∷ k.From ∷ k.In ∷ k.Index ∷ k.Insert ∷ k.IntegerWord ∷ k.Into ∷ k.Is ∷ k.Isolation ∷ k.Lock ∷ k.Locklist ∷ k.Logmax ∷ k.Maxlocks ∷ k.Mode ∷ k.Not ∷ k.Null ∷ k.On ∷ k.Or ∷ k.Reset ∷ k.Retain ∷ k.Rollback ∷ k.Row ∷ k.Rr ∷ k.Rs ∷ k.Savepoint ∷ k.Select ∷ k.Set ∷ k.Share ∷ k.Snapshot ∷ k.Table ∷ k.Timeout ∷ k.To ∷ k.Unique ∷ k.Update ∷ k.Ur ∷ k.Values ∷ k.Varchar ∷ k.Wait ∷ k.Where ∷ k.Window ∷ k.With ∷ k.Work ∷ k.One ∷ k.Integer ∷ k.Name ∷ k.Text ∷ k.Open ∷ k.Close ∷ k.Comma ∷ k.Colon ∷ k.Semicolon ∷ k.Ampersand ∷ k.Star ∷ k.Equal ∷ k.NotEqual ∷ k.Less ∷ k.LessEqual ∷ k.Greater ∷ k.GreaterEqual ∷ k.Plus ∷ k.Minus ∷ k.Other ∷ []

kind_at-number_of : (j : Kind) → kind_at all (number_of j) ≡ j
unfolding all
kind_at-number_of k.And = refl
kind_at-number_of k.Begin = refl
kind_at-number_of k.Between = refl
kind_at-number_of k.Bigint = refl
kind_at-number_of k.Commit = refl
kind_at-number_of k.Config = refl
kind_at-number_of k.Connect = refl
kind_at-number_of k.Count = refl
kind_at-number_of k.Cs = refl
kind_at-number_of k.CurCommit = refl
kind_at-number_of k.Current = refl
kind_at-number_of k.Cursors = refl
kind_at-number_of k.Db2iso = refl
kind_at-number_of k.Delete = refl
kind_at-number_of k.Disabled = refl
kind_at-number_of k.End = refl
kind_at-number_of k.Exclusive = refl
kind_at-number_of k.Expire = refl
kind_at-number_of k.From = refl
kind_at-number_of k.In = refl
kind_at-number_of k.Index = refl
kind_at-number_of k.Insert = refl
kind_at-number_of k.IntegerWord = refl
kind_at-number_of k.Into = refl
kind_at-number_of k.Is = refl
kind_at-number_of k.Isolation = refl
kind_at-number_of k.Lock = refl
kind_at-number_of k.Locklist = refl
kind_at-number_of k.Logmax = refl
kind_at-number_of k.Maxlocks = refl
kind_at-number_of k.Mode = refl
kind_at-number_of k.Not = refl
kind_at-number_of k.Null = refl
kind_at-number_of k.On = refl
kind_at-number_of k.Or = refl
kind_at-number_of k.Reset = refl
kind_at-number_of k.Retain = refl
kind_at-number_of k.Rollback = refl
kind_at-number_of k.Row = refl
kind_at-number_of k.Rr = refl
kind_at-number_of k.Rs = refl
kind_at-number_of k.Savepoint = refl
kind_at-number_of k.Select = refl
kind_at-number_of k.Set = refl
kind_at-number_of k.Share = refl
kind_at-number_of k.Snapshot = refl
kind_at-number_of k.Table = refl
kind_at-number_of k.Timeout = refl
kind_at-number_of k.To = refl
kind_at-number_of k.Unique = refl
kind_at-number_of k.Update = refl
kind_at-number_of k.Ur = refl
kind_at-number_of k.Values = refl
kind_at-number_of k.Varchar = refl
kind_at-number_of k.Wait = refl
kind_at-number_of k.Where = refl
kind_at-number_of k.Window = refl
kind_at-number_of k.With = refl
kind_at-number_of k.Work = refl
kind_at-number_of k.One = refl
kind_at-number_of k.Integer = refl
kind_at-number_of k.Name = refl
kind_at-number_of k.Text = refl
kind_at-number_of k.Open = refl
kind_at-number_of k.Close = refl
kind_at-number_of k.Comma = refl
kind_at-number_of k.Colon = refl
kind_at-number_of k.Semicolon = refl
kind_at-number_of k.Ampersand = refl
kind_at-number_of k.Star = refl
kind_at-number_of k.Equal = refl
kind_at-number_of k.NotEqual = refl
kind_at-number_of k.Less = refl
kind_at-number_of k.LessEqual = refl
kind_at-number_of k.Greater = refl
kind_at-number_of k.GreaterEqual = refl
kind_at-number_of k.Plus = refl
kind_at-number_of k.Minus = refl
kind_at-number_of k.Other = refl

pub same_is : (a b : Kind) → same_kind a b ≡ true → a ≡ b
same_is a b e = sym (kind_at-number_of a) ∙ ap (kind_at all) (eqb-true (number_of a) (number_of b) e) ∙ kind_at-number_of b

pub same_self : (a : Kind) → same_kind a a ≡ true
same_self k.And = refl
same_self k.Begin = refl
same_self k.Between = refl
same_self k.Bigint = refl
same_self k.Commit = refl
same_self k.Config = refl
same_self k.Connect = refl
same_self k.Count = refl
same_self k.Cs = refl
same_self k.CurCommit = refl
same_self k.Current = refl
same_self k.Cursors = refl
same_self k.Db2iso = refl
same_self k.Delete = refl
same_self k.Disabled = refl
same_self k.End = refl
same_self k.Exclusive = refl
same_self k.Expire = refl
same_self k.From = refl
same_self k.In = refl
same_self k.Index = refl
same_self k.Insert = refl
same_self k.IntegerWord = refl
same_self k.Into = refl
same_self k.Is = refl
same_self k.Isolation = refl
same_self k.Lock = refl
same_self k.Locklist = refl
same_self k.Logmax = refl
same_self k.Maxlocks = refl
same_self k.Mode = refl
same_self k.Not = refl
same_self k.Null = refl
same_self k.On = refl
same_self k.Or = refl
same_self k.Reset = refl
same_self k.Retain = refl
same_self k.Rollback = refl
same_self k.Row = refl
same_self k.Rr = refl
same_self k.Rs = refl
same_self k.Savepoint = refl
same_self k.Select = refl
same_self k.Set = refl
same_self k.Share = refl
same_self k.Snapshot = refl
same_self k.Table = refl
same_self k.Timeout = refl
same_self k.To = refl
same_self k.Unique = refl
same_self k.Update = refl
same_self k.Ur = refl
same_self k.Values = refl
same_self k.Varchar = refl
same_self k.Wait = refl
same_self k.Where = refl
same_self k.Window = refl
same_self k.With = refl
same_self k.Work = refl
same_self k.One = refl
same_self k.Integer = refl
same_self k.Name = refl
same_self k.Text = refl
same_self k.Open = refl
same_self k.Close = refl
same_self k.Comma = refl
same_self k.Colon = refl
same_self k.Semicolon = refl
same_self k.Ampersand = refl
same_self k.Star = refl
same_self k.Equal = refl
same_self k.NotEqual = refl
same_self k.Less = refl
same_self k.LessEqual = refl
same_self k.Greater = refl
same_self k.GreaterEqual = refl
same_self k.Plus = refl
same_self k.Minus = refl
same_self k.Other = refl

true_or_false : (b : Bool) → b ≡ true → b ≡ false → ⊥
true_or_false b p q = cc

pub apart_then : (goes first : Kinds) (c : Kind) → apart goes first ≡ true → has first c ≡ true → has goes c ≡ false
apart_then [] first c d h = refl
apart_then (j ∷ js) first c d h = both (has first j) (apart js first) refl refl d (λ e. apart_then js first c e h)
  where
    one : (b : Bool) → same_kind j c ≡ b → has first j ≡ false → has js c ≡ false → (b || has js c) ≡ false
    one true s n rest = absurd (true_or_false (has first c) h (ap (has first) (sym (same_is j c s)) ∙ n))
    one false s n rest = rest

    both : (b d : Bool) → has first j ≡ b → apart js first ≡ d → (not b && d) ≡ true → (apart js first ≡ true → has js c ≡ false) → (same_kind j c || has js c) ≡ false
    both true d n r e go = absurd cc
    both false d n r e go = one (same_kind j c) refl n (go (r ∙ e))
