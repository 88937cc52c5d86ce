-- The first fault of a list is the least of all its faults, since its tokens rise.
use Rattle.std.proofs.Common.{◌≡◌, ◌<◌, ℕ, Bool, true, false, List, [], ◌∷◌, ◌++◌, Option, Some, None, refl, sym, ap, subst, ◌∙◌}
use Rattle.std.specs.Prelude.{◌==◌, ◌||◌, not, if◌then◌else◌}
use Rattle.std.specs.Option.{option_map_or}
use Rattle.std.proofs.lemmas.List.Folds.{list_any-append}
use Rattle.iso_types.specs.declared.head.Column.{Column}
use Rattle.iso_grammar.specs.declared.fault.Cause.TheVariants.{Unknown, TypeFault, Duplicate}
use Rattle.iso_grammar.specs.declared.token.Token.{Token}
use Rattle.iso_grammar.specs.Faults.{at, checked, unless}
use Rattle.iso_sql.specs.Actions.{has_place, listed}
use Rattle.iso_sql.specs.Every.{IsLeastOf, Rise, column_fault, each, every_listed, every_stored, is_named}
use Rattle.iso_sql.specs.Names.{Names, column_place}
use Rattle.iso_sql.specs.Rows.{stored_fault, stores}
use Rattle.iso_sql.proofs.Firsts.{Beyond, at-least, beyond-at, beyond-both, beyond-less, beyond-none, beyond-unless}

-- ---- literals

pub stored-beyond : (strict : Bool) (line : List ℕ) (cs : List Column) (ts : List Token) (close : Token) (n : ℕ) → Rise n (ts ++ close ∷ []) → Beyond n (every_stored strict line cs ts close)
stored-beyond strict line [] [] close n r = beyond-none n
stored-beyond strict line [] (t ∷ ts) close n r = beyond-at n t TypeFault r.0
stored-beyond strict line (c ∷ cs) [] close n r = beyond-at n close TypeFault r.0
stored-beyond strict line (c ∷ cs) (t ∷ ts) close n r =
    beyond-both n (each (unless (stores strict line c t) t TypeFault)) (every_stored strict line cs ts close) (beyond-unless n (stores strict line c t) t TypeFault r.0)
    (beyond-less t.start n (every_stored strict line cs ts close) r.0 (stored-beyond strict line cs ts close t.start r.1))

pub stored-least : (strict : Bool) (line : List ℕ) (cs : List Column) (ts : List Token) (close : Token) (n : ℕ) → Rise n (ts ++ close ∷ [])
    → IsLeastOf (stored_fault strict line cs ts close) (every_stored strict line cs ts close)
unfolding unless at
stored-least strict line [] [] close n r = refl
stored-least strict line [] (t ∷ ts) close n r = at-least t TypeFault [] (beyond-none t.start)
stored-least strict line (c ∷ cs) [] close n r = at-least close TypeFault [] (beyond-none close.start)
stored-least strict line (c ∷ cs) (t ∷ ts) close n r = go (stores strict line c t) (stored-least strict line cs ts close t.start r.1)
  where
    go : (b : Bool) → IsLeastOf (stored_fault strict line cs ts close) (every_stored strict line cs ts close)
        → IsLeastOf (if b then stored_fault strict line cs ts close else at t TypeFault) (each (unless b t TypeFault) ++ every_stored strict line cs ts close)
    go true l = l
    go false l = at-least t TypeFault (every_stored strict line cs ts close) (stored-beyond strict line cs ts close t.start r.1)

-- ---- columns

pub column-beyond : (names : Names) (before : List Token) (t : Token) (n : ℕ) → n < t.start → Beyond n (each (column_fault names before t))
column-beyond names before t n lt = go (column_place names t)
  where
    go : (o : Option ℕ) → Beyond n (each (option_map_or (λ p. unless (not (is_named names before p)) t Duplicate) o (at t Unknown)))
    go None = beyond-at n t Unknown lt
    go (Some p) = beyond-unless n (not (is_named names before p)) t Duplicate lt

pub listed-beyond : (names : Names) (before ts : List Token) (n : ℕ) → Rise n ts → Beyond n (every_listed names before ts)
listed-beyond names before [] n r = beyond-none n
listed-beyond names before (t ∷ ts) n r =
    beyond-both n (each (column_fault names before t)) (every_listed names (before ++ t ∷ []) ts) (column-beyond names before t n r.0)
    (beyond-less t.start n (every_listed names (before ++ t ∷ []) ts) r.0 (listed-beyond names (before ++ t ∷ []) ts t.start r.1))

-- these places are those that the tokens name
abbrev pub AreNamed : Names → List ℕ → List Token → Type 0
AreNamed names places ts = (p : ℕ) → has_place places p ≡ is_named names ts p

named-more : (names : Names) (places : List ℕ) (before : List Token) (t : Token) (p : ℕ) → column_place names t ≡ Some p → AreNamed names places before → AreNamed names (places ++ p ∷ []) (before ++ t ∷ [])
named-more names places before t p is same q =
    list_any-append (λ j. j == q) places (p ∷ []) ∙ ap (λ v. v || ((p == q) || false)) (same q) ∙ ap (λ (o : Option ℕ). is_named names before q || (option_map_or (λ j. j == q) o false || false)) (sym is)
    ∙ sym (list_any-append (λ (x : Token). option_map_or (λ j. j == q) (column_place names x) false) before (t ∷ []))

pub listed-least : (names : Names) (places : List ℕ) (before ts : List Token) (n : ℕ) → AreNamed names places before → Rise n ts
    → IsLeastOf (listed names places ts).fault (every_listed names before ts)
unfolding unless
listed-least names places before [] n same r = refl
listed-least names places before (t ∷ ts) n same r = go (column_place names t) refl (λ p is. listed-least names (places ++ p ∷ []) (before ++ t ∷ []) ts t.start (named-more names places before t p is same) r.1)
  where
    behind : Beyond t.start (every_listed names (before ++ t ∷ []) ts)
    behind = listed-beyond names (before ++ t ∷ []) ts t.start r.1

    twice : (p : ℕ) (b : Bool) → IsLeastOf (listed names (places ++ p ∷ []) ts).fault (every_listed names (before ++ t ∷ []) ts)
        → IsLeastOf (if b then checked places (at t Duplicate) else listed names (places ++ p ∷ []) ts).fault (each (unless (not b) t Duplicate) ++ every_listed names (before ++ t ∷ []) ts)
    twice p true l = at-least t Duplicate (every_listed names (before ++ t ∷ []) ts) behind
    twice p false l = l

    go : (o : Option ℕ) → column_place names t ≡ o
        → ((p : ℕ) → column_place names t ≡ Some p → IsLeastOf (listed names (places ++ p ∷ []) ts).fault (every_listed names (before ++ t ∷ []) ts))
        → IsLeastOf (option_map_or (λ p. if has_place places p then checked places (at t Duplicate) else listed names (places ++ p ∷ []) ts) o (checked places (at t Unknown))).fault
        (each (option_map_or (λ p. unless (not (is_named names before p)) t Duplicate) o (at t Unknown)) ++ every_listed names (before ++ t ∷ []) ts)
    go None is more = at-least t Unknown (every_listed names (before ++ t ∷ []) ts) behind
    go (Some p) is more =
        subst (λ (b : Bool). IsLeastOf (if b then checked places (at t Duplicate) else listed names (places ++ p ∷ []) ts).fault (each (unless (not (is_named names before p)) t Duplicate) ++ every_listed names (before ++ t ∷ []) ts)) (sym (same p)) (twice p (is_named names before p) (more p is))
