-- The fault of a statement is the least of all that is wrong with its parts.
use Rattle.std.proofs.Common.{◌≡◌, ◌≤◌, ◌<◌, ℕ, false, cond, List, [], ◌∷◌, ◌++◌, append_assoc, Option, Some, None, refl, sym, ap, subst, ◌∙◌, inl, inr, arith}
use Rattle.std.specs.Prelude.{if◌then◌else◌}
use Rattle.std.specs.List.{All}
use Rattle.std.specs.Option.{option_map_or}
use Rattle.std.proofs.lemmas.List.{append-nil}
use Rattle.std.proofs.lemmas.List.Elements.{All-append, All-cons, All-contains, All-head, All-nil, All-weaker, Contains-append_left}
use Rattle.iso_types.specs.declared.head.Column.{Column}
use Rattle.iso_types.specs.declared.head.Head.{Head}
use Rattle.iso_types.specs.declared.head.Isolation.{Isolation}
use Rattle.iso_grammar.specs.declared.fault.Cause.TheVariants.{Unknown, TypeFault, Duplicate}
use Rattle.iso_grammar.specs.declared.fault.Checked.{Checked}
use Rattle.iso_grammar.specs.declared.fault.Fault.{Fault}
use Rattle.iso_grammar.specs.declared.token.Token.{Token}
use Rattle.iso_grammar.specs.Faults.{at, checked, is_sooner, least, unless}
use Rattle.iso_grammar.proofs.Choices.{decide}
use Rattle.iso_sql.specs.declared.assignment.Target.{Target}
use Rattle.iso_sql.specs.declared.list.Chosen.{Chosen}
use Rattle.iso_sql.specs.declared.list.Chosen.TheVariants as chosen
use Rattle.iso_sql.specs.declared.statement.Condition.{Condition}
use Rattle.iso_sql.specs.Actions.{and_column, assigned, columns_at, has_place, inserted, items_of, listed, literal_right, row_of, selected, updated}
use Rattle.iso_sql.specs.Every.{IsLeastOf, Rise, assigned_tokens, each, every_assigned, every_inserted, every_item, every_listed, every_placed, every_row, every_selected, every_stored, every_updated, item_tokens, row_tokens}
use Rattle.iso_sql.specs.Names.{Names, column_of, column_place, table_fault, table_names}
use Rattle.iso_sql.specs.Rows.{stored_fault, stores}
use Rattle.iso_sql.proofs.EveryLaws.{listed-least, stored-beyond, stored-least}
use Rattle.iso_sql.proofs.EverySets.{AllAt, all-at, all-column, all-literal, assigned-least, each-least}
use Rattle.iso_sql.proofs.Firsts.{Beyond, beyond-less, joined-least, place-sooner}
use Rattle.iso_sql.proofs.SoundFacts.{at_none, column_is, column_there}
use Rattle.iso_sql.proofs.SoundRows.{is_there}

-- ---- one list behind another

stays : (f : Fault) (o : Option Fault) → Beyond f.place (each o) → least (Some f) o ≡ Some f
unfolding least
stays f None all = refl
stays f (Some g) all = ap (λ v. cond v (Some g) (Some f)) (place-sooner f g (All-head (λ h. f.place < h.place) g [] all))

-- what is told of the second list counts only where nothing is told of the first
then-least : (o p : Option Fault) (fs gs : List Fault) (m : ℕ) → IsLeastOf o fs → All (λ g. g.place ≤ m) fs → Beyond m gs → Beyond m (each p) → (o ≡ None → IsLeastOf p gs) → IsLeastOf (least o p) (fs ++ gs)
then-least None p fs gs m l within behind told ih = joined-least None p fs gs l (ih refl)
then-least (Some f) p fs gs m l within behind told ih =
    let here : f.place ≤ m = All-contains (λ g. g.place ≤ m) fs f within l.0 in
    subst (λ (o : Option Fault). IsLeastOf o (fs ++ gs)) (sym (stays f p (All-weaker (λ g. m < g.place) (λ g. f.place < g.place) (λ g lt. omega (arith, here, lt)) (each p) told))) (
      Contains-append_left fs gs f l.0,
      All-append (λ g. is_sooner g f ≡ false) fs gs l.1 (All-weaker (λ g. m < g.place) (λ g. is_sooner g f ≡ false) (λ g lt. place-sooner f g (omega (arith, here, lt))) gs behind),
    )

-- tokens behind others: where the first end
rise-parts : (n : ℕ) (ts more : List Token) → Rise n (ts ++ more) → (m : ℕ) × (n ≤ m) × Rise m more × AllAt (λ g. g.place ≤ m) ts
rise-parts n [] more r = (n, omega arith, r, tt)
rise-parts n (t ∷ ts) more r =
    let p : n < t.start = r.0 in
    let rest = rise-parts t.start ts more r.1 in
    let q : t.start ≤ rest.0 = rest.1 in
    (rest.0, omega (arith, p, q), rest.2, (λ why. q, rest.3))

first-rise : (n : ℕ) (ts more : List Token) → Rise n (ts ++ more) → Rise n ts
first-rise n [] more r = tt
first-rise n (t ∷ ts) more r = (r.0, first-rise t.start ts more r.1)

all-listed : (P : Fault → Type 0) (names : Names) (before ts : List Token) → AllAt P ts → All P (every_listed names before ts)
all-listed P names before [] h = All-nil P
all-listed P names before (t ∷ ts) h = All-append P _ (every_listed names (before ++ t ∷ []) ts) (all-column P names before t h.0) (all-listed P names (before ++ t ∷ []) ts h.1)

told-beyond : (o : Option Fault) (fs : List Fault) (n : ℕ) → IsLeastOf o fs → Beyond n fs → Beyond n (each o)
told-beyond None fs n l all = All-nil (λ g. n < g.place)
told-beyond (Some f) fs n l all = All-cons (λ g. n < g.place) f [] (All-contains (λ g. n < g.place) fs f all l.0) (All-nil (λ g. n < g.place))

-- ---- literals for listed columns

-- the places of the columns that the tokens name
abbrev AreOf : Names → List Token → List ℕ → Type 0
AreOf names [] [] = Unit {0}
AreOf names (t ∷ ts) (p ∷ ps) = (column_place names t ≡ Some p) × AreOf names ts ps
AreOf names _ _ = ⊥

placed-is : (names : Names) (ts : List Token) (ps : List ℕ) (vs : List Token) (close : Token) → AreOf names ts ps → every_placed names ts vs close ≡ every_stored false names.line (columns_at names ps) vs close
placed-is names [] [] [] close a = refl
placed-is names [] [] (v ∷ vs) close a = refl
placed-is names [] (p ∷ ps) vs close a = absurd a
placed-is names (t ∷ ts) [] vs close a = absurd a
placed-is names (t ∷ ts) (p ∷ ps) [] close a =
    let d = column_there names t p a.0 in
    ap (λ (o : Option Column). every_stored false names.line (and_column o (columns_at names ps)) [] close) (sym d.1)
placed-is names (t ∷ ts) (p ∷ ps) (v ∷ vs) close a =
    let d = column_there names t p a.0 in
    ap (λ (o : Option Column). each (literal_right names.line o v) ++ every_placed names ts vs close) (column_is names t p a.0 ∙ d.1)
    ∙ ap (λ (fs : List Fault). each (unless (stores false names.line d.0 v) v TypeFault) ++ fs) (placed-is names ts ps vs close a.1)
    ∙ ap (λ (o : Option Column). every_stored false names.line (and_column o (columns_at names ps)) (v ∷ vs) close) (sym d.1)

abbrev next : Names → List ℕ → Token → List Token → Option ℕ → Checked (List ℕ)
next names places t ts o = option_map_or (λ p. if has_place places p then checked places (at t Duplicate) else listed names (places ++ p ∷ []) ts) o (checked places (at t Unknown))

listed-are : (names : Names) (places : List ℕ) (ts : List Token) → (listed names places ts).fault ≡ None → (ps : List ℕ) × ((listed names places ts).value ≡ places ++ ps) × AreOf names ts ps
listed-are names places [] e = ([], sym (append-nil places), tt)
listed-are names places (t ∷ ts) e = elim (is_there (column_place names t)) [
  | inl n ↦ at_none t Unknown (sym (ap (λ o. (next names places t ts o).fault) n) ∙ e)
  | inr w ↦ elim (decide (has_place places w.0)) [
    | inl h ↦ at_none t Duplicate (sym (ap (λ v. (cond v (checked places (at t Duplicate)) (listed names (places ++ w.0 ∷ []) ts)).fault) h) ∙ sym (ap (λ o. (next names places t ts o).fault) w.1) ∙ e)
    | inr h ↦
        let is : listed names places (t ∷ ts) ≡ listed names (places ++ w.0 ∷ []) ts = ap (next names places t ts) w.1 ∙ ap (λ v. cond v (checked places (at t Duplicate)) (listed names (places ++ w.0 ∷ []) ts)) h in
        let rest = listed-are names (places ++ w.0 ∷ []) ts (ap (λ (z : Checked (List ℕ)). z.fault) (sym is) ∙ e) in
        (w.0 ∷ rest.0, ap (λ (z : Checked (List ℕ)). z.value) is ∙ rest.1 ∙ append_assoc places (w.0 ∷ []) rest.0, (w.1, rest.2))
  ]
]

placed-beyond : (names : Names) (ts vs : List Token) (close : Token) (n : ℕ) → Rise n (vs ++ close ∷ []) → Beyond n (every_placed names ts vs close)
placed-beyond names [] [] close n r = All-nil (λ g. n < g.place)
placed-beyond names [] (v ∷ vs) close n r = all-at (λ g. n < g.place) v TypeFault (λ why. r.0)
placed-beyond names (t ∷ ts) [] close n r = all-at (λ g. n < g.place) close TypeFault (λ why. r.0)
placed-beyond names (t ∷ ts) (v ∷ vs) close n r =
    All-append (λ g. n < g.place) (each (literal_right names.line (column_of names t) v)) (every_placed names ts vs close) (all-literal (λ g. n < g.place) names.line (column_of names t) v (λ why. r.0))
    (beyond-less v.start n (every_placed names ts vs close) r.0 (placed-beyond names ts vs close v.start r.1))

row-least : (names : Names) (columns : Option (List Token)) (vs : List Token) (close : Token) (n : ℕ) → Rise n (row_tokens columns vs close) → IsLeastOf (row_of names columns vs close).fault (every_row names columns vs close)
row-least names None vs close n r = stored-least false names.line names.columns vs close n r
row-least names (Some ts) vs close n r =
    let s = rise-parts n ts (vs ++ close ∷ []) r in
    let columns = columns_at names (listed names [] ts).value in
    then-least (listed names [] ts).fault (stored_fault false names.line columns vs close) (every_listed names [] ts) (every_placed names ts vs close) s.0
    (listed-least names [] [] ts n (λ p. refl) (first-rise n ts (vs ++ close ∷ []) r)) (all-listed (λ g. g.place ≤ s.0) names [] ts s.3) (placed-beyond names ts vs close s.0 s.2)
    (told-beyond (stored_fault false names.line columns vs close) (every_stored false names.line columns vs close) s.0 (stored-least false names.line columns vs close s.0 s.2) (stored-beyond false names.line columns vs close s.0 s.2))
    (λ e. let a = listed-are names [] ts e in
    subst (λ (ps : List ℕ). IsLeastOf (stored_fault false names.line (columns_at names ps) vs close) (every_placed names ts vs close)) (sym a.1)
    (subst (λ (fs : List Fault). IsLeastOf (stored_fault false names.line (columns_at names a.0) vs close) fs) (sym (placed-is names ts a.0 vs close a.2)) (stored-least false names.line (columns_at names a.0) vs close s.0 s.2)))

-- ---- statements

item-least : (names : Names) (items : Chosen) (n : ℕ) → Rise n (item_tokens items) → IsLeastOf (items_of names items).fault (every_item names items)
item-least names chosen.All n r = refl
item-least names chosen.Count n r = refl
item-least names (chosen.Columns ts) n r = listed-least names [] [] ts n (λ p. refl) r

pub selected-least : (head : Head) (line : List ℕ) (items : Chosen) (t : Token) (cond' : Checked Condition) (level : Option Isolation) (n : ℕ) → Rise n (item_tokens items)
    → IsLeastOf (selected head line items t cond' level).fault (every_selected (table_names head line t) items t cond'.fault)
unfolding selected
selected-least head line items t x level n r =
    joined-least (items_of (table_names head line t) items).fault (least (table_fault (table_names head line t) t) x.fault) (every_item (table_names head line t) items) (each (table_fault (table_names head line t) t) ++ each x.fault)
    (item-least (table_names head line t) items n r)
    (joined-least (table_fault (table_names head line t) t) x.fault (each (table_fault (table_names head line t) t)) (each x.fault) (each-least (table_fault (table_names head line t) t)) (each-least x.fault))

pub inserted-least : (head : Head) (line : List ℕ) (t : Token) (columns : Option (List Token)) (vs : List Token) (close : Token) (n : ℕ) → Rise n (row_tokens columns vs close)
    → IsLeastOf (inserted head line t columns vs close).fault (every_inserted (table_names head line t) t columns vs close)
unfolding inserted
inserted-least head line t columns vs close n r =
    joined-least (table_fault (table_names head line t) t) (row_of (table_names head line t) columns vs close).fault (each (table_fault (table_names head line t) t)) (every_row (table_names head line t) columns vs close)
    (each-least (table_fault (table_names head line t) t)) (row-least (table_names head line t) columns vs close n r)

pub updated-least : (head : Head) (line : List ℕ) (t : Token) (targets : List Target) (cond' : Checked Condition) (level : Option Isolation) (n : ℕ) → Rise n (assigned_tokens targets)
    → IsLeastOf (updated head line t targets cond' level).fault (every_updated (table_names head line t) t targets cond'.fault)
unfolding updated
updated-least head line t targets x level n r =
    joined-least (table_fault (table_names head line t) t) (least (assigned (table_names head line t) [] targets).fault x.fault) (each (table_fault (table_names head line t) t)) (every_assigned (table_names head line t) [] targets ++ each x.fault)
    (each-least (table_fault (table_names head line t) t))
    (joined-least (assigned (table_names head line t) [] targets).fault x.fault (every_assigned (table_names head line t) [] targets) (each x.fault) (assigned-least (table_names head line t) [] [] targets n (λ p. refl) r) (each-least x.fault))
