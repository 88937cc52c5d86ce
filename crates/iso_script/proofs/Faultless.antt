-- What follows where a line has no fault.
use Rattle.std.proofs.Common.{◌≡◌, ℕ, ◌<◌, Bool, true, false, not, cond, List, [], ◌∷◌, ◌++◌, length, Option, Some, None, refl, sym, ap, ◌∙◌, arith}
use Rattle.std.specs.Prelude.{◌&&◌, ◌||◌, find, slice_get, is_some}
use Rattle.std.specs.List.{list_all}
use Rattle.std.specs.Option.{option_map_or}
use Rattle.std.proofs.lemmas.List.Folds.{list_all-append}
use Rattle.std.proofs.lemmas.Option.{slice_get_within}
use Rattle.iso_types.specs.declared.head.ConnDef.{ConnDef}
use Rattle.iso_types.specs.declared.head.Head.{Head}
use Rattle.iso_types.specs.Head.{row_fits}
use Rattle.iso_grammar.specs.declared.fault.Cause.TheVariants.{Duplicate, Limit, Unknown}
use Rattle.iso_grammar.specs.declared.fault.Checked.{Checked}
use Rattle.iso_grammar.specs.declared.fault.Fault.{Fault}
use Rattle.iso_grammar.specs.declared.token.Token.{Token}
use Rattle.iso_grammar.specs.Faults.{at, least, unless}
use Rattle.iso_sql.specs.Names.{columns_in, gives, table_in, table_names, table_of, table_place}
use Rattle.iso_sql.specs.Rows.{stored_row}
use Rattle.iso_script.specs.declared.event.Event.{Event}
use Rattle.iso_script.specs.Events.{whole_line}
use Rattle.iso_script.specs.Keyed.{full_fault, repeats_keys, row_fault, values_fault}
use Rattle.iso_script.specs.Naming.{connection_fault, connection_of, connection_place, is_connection, places}
use Rattle.iso_script.proofs.RowLaws.{named-fits, stored-fits}

-- ---- what the answers say

pub some_is : {A : Type 0} (x y : A) → Some x ≡ Some y → x ≡ y
some_is x y e = cc

pub none_is : {A : Type 0} (x : A) → Some x ≡ None → ⊥
none_is x e = cc

pub false_true : false ≡ true → ⊥
false_true e = cc

pub and_left : (a b : Bool) → (a && b) ≡ true → a ≡ true
and_left true b e = refl
and_left false b e = absurd cc

pub and_right : (a b : Bool) → (a && b) ≡ true → b ≡ true
and_right true b e = e
and_right false b e = absurd cc

pub or_left : (a b : Bool) → (a || b) ≡ false → a ≡ false
or_left true b e = absurd cc
or_left false b e = refl

pub or_right : (a b : Bool) → (a || b) ≡ false → b ≡ false
or_right true b e = absurd cc
or_right false b e = e

pub is_false : (b : Bool) → not b ≡ true → b ≡ false
is_false true e = absurd cc
is_false false e = refl

pub value_is : (c d : Checked Event) → c ≡ d → c.value ≡ d.value
value_is c d e = ap (λ (z : Checked Event). z.value) e

pub fault_is : (c d : Checked Event) → c ≡ d → c.fault ≡ d.fault
fault_is c d e = ap (λ (z : Checked Event). z.fault) e

pub no_least_left : (a b : Option Fault) → least a b ≡ None → a ≡ None
unfolding least
no_least_left None b e = refl
no_least_left (Some a) None e = absurd (none_is a e)
no_least_left (Some a) (Some b) e = go _ e
  where
    go : (v : Bool) → cond v (Some b) (Some a) ≡ None → Some a ≡ None
    go true q = absurd (none_is b q)
    go false q = q

pub no_least_right : (a b : Option Fault) → least a b ≡ None → b ≡ None
unfolding least
no_least_right None b e = e
no_least_right (Some a) None e = refl
no_least_right (Some a) (Some b) e = go _ e
  where
    go : (v : Bool) → cond v (Some b) (Some a) ≡ None → Some b ≡ None
    go true q = q
    go false q = absurd (none_is a q)

-- no limit of the whole line is passed, and nothing else is wrong
pub unlimited : (b : Bool) (f : Option Fault) → cond b (whole_line Limit) f ≡ None → (b ≡ false) × (f ≡ None)
unlimited true f e = absurd (none_is (record { place = 1; cause = Limit }) e)
unlimited false f e = (refl, e)

pub all_well : (b : Bool) (t : Token) (why : _) → unless b t why ≡ None → b ≡ true
unfolding unless at
all_well true t why e = refl
all_well false t why e = absurd (none_is _ e)

pub all_snoc : {A : Type 0} (p : A → Bool) (ls : List A) (l : A) → list_all p ls ≡ true → p l ≡ true → list_all p (ls ++ l ∷ []) ≡ true
all_snoc p ls l a b = list_all-append p ls (l ∷ []) ∙ ap (λ v. v && (p l && true)) a ∙ ap (λ v. v && true) b

found_passes : (p : ℕ → Bool) (xs : List ℕ) (x : ℕ) → find p xs ≡ Some x → p x ≡ true
found_passes p [] x e = absurd (none_is x (sym e))
found_passes p (y ∷ ys) x e = go (p y) refl e (λ q. found_passes p ys x q)
  where
    go : (b : Bool) → p y ≡ b → cond b (Some y) (find p ys) ≡ Some x → (find p ys ≡ Some x → p x ≡ true) → p x ≡ true
    go true is q later = ap p (sym (some_is y x q)) ∙ is
    go false is q later = later q

connection_within : (head : Head) (line : List ℕ) (a : Token) (at : ℕ) → is_connection head line a at ≡ true → at < length head.conns
connection_within head line a at e = go (slice_get head.conns at) refl e
  where
    go : (o : Option ConnDef) → slice_get head.conns at ≡ o → option_map_or (λ d. gives line a d.name) o false ≡ true → at < length head.conns
    go (Some d) is q = slice_get_within head.conns at d is
    go None is q = absurd (false_true q)

-- a connection that a line uses without a fault is declared
pub connection_there : (head : Head) (line : List ℕ) (a : Token) → connection_fault head line a ≡ None → (connection_of head line a).0 < length head.conns
unfolding connection_place
connection_there head line a e = go (connection_place head line a) refl (all_well (is_some (connection_place head line a)) a Unknown e)
  where
    go : (o : Option ℕ) → connection_place head line a ≡ o → is_some o ≡ true → (option_map_or (λ at. at) (connection_place head line a) 0) < length head.conns
    go (Some at) is q =
        let same : option_map_or (λ at. at) (connection_place head line a) 0 ≡ at = ap (λ o. option_map_or (λ at. at) o 0) is in
        let less : at < length head.conns = connection_within head line a at (found_passes (is_connection head line a) places at is) in
        omega (arith, same, less)
    go None is q = absurd (false_true q)

-- a row that is stored without a fault fits its table
pub row-fits : (head : Head) (line : List ℕ) (first t : Token) (vs : List Token) (close : Token) → row_fault head (table_names head line t) first t (table_of head line t) vs close ≡ None → row_fits head (table_of head line t) (stored_row line vs) ≡ true
unfolding table_names table_of at
row-fits head line first t vs close e = go (is_some (table_place head line t)) refl e
  where
    go : (b : Bool) → is_some (table_place head line t) ≡ b → cond b (values_fault head line first (table_of head line t) (columns_in head (table_place head line t)) vs close) (at t Unknown) ≡ None → row_fits head (table_in (table_place head line t)) (stored_row line vs) ≡ true
    go true is q =
        named-fits head line t (stored_row line vs) (table_place head line t) refl is
        (stored-fits line (columns_in head (table_place head line t)) vs close (no_least_right (full_fault head (table_of head line t)) _ (no_least_right (unless (not (repeats_keys head (table_of head line t) (stored_row line vs))) first Duplicate) _ q)))
    go false is q = absurd (none_is (record { place = t.start; cause = Unknown }) q)
