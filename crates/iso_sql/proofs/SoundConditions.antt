-- A condition without a fault is sound.
use Rattle.std.proofs.Common.{◌≡◌, ◌≤◌, ◌+◌, ℕ, zero, suc, Bool, true, false, cond, List, [], ◌∷◌, ◌++◌, length, length-append, Option, Some, None, refl, sym, ap, subst, ◌∙◌, ◌⊎◌, inl, inr, arith}
use Rattle.std.specs.Prelude.{◌&&◌, fold, nat_le, nat_lt, not, ℤ}
use Rattle.std.specs.Option.{option_map}
use Rattle.std.proofs.lemmas.Option.{slice_get_cases, slice_get_within}
use Rattle.std.proofs.lemmas.Bool.{le-leb, lt-ltb}
use Rattle.iso_types.specs.declared.head.Column.{Column}
use Rattle.iso_types.specs.declared.head.ColumnKind.{ColumnKind}
use Rattle.iso_types.specs.declared.head.ColumnKind.TheVariants.{Bigint, Integer, Varchar}
use Rattle.iso_types.specs.declared.value.Value.{Value}
use Rattle.iso_types.specs.declared.value.Value.TheVariants as value
use Rattle.iso_grammar.specs.declared.fault.Cause.TheVariants.{Limit, TypeFault}
use Rattle.iso_grammar.specs.declared.token.Kind.{Kind}
use Rattle.iso_grammar.specs.declared.token.Kind.TheVariants as k
use Rattle.iso_grammar.specs.declared.token.Token.{Token}
use Rattle.iso_grammar.specs.Faults.{at, least, unless}
use Rattle.iso_grammar.specs.Grammar as g
use Rattle.iso_grammar.specs.Grammar.{Lang}
use Rattle.iso_grammar.specs.Kinds.{same_kind}
use Rattle.iso_grammar.specs.Values as said
use Rattle.iso_grammar.specs.Values.{integer, text, text_of, value_of}
use Rattle.iso_grammar.proofs.Choices.{decide}
use Rattle.iso_sql.specs.declared.found.Found.{Found}
use Rattle.iso_sql.specs.declared.statement.Condition.{Condition, fold-roll-Condition}
use Rattle.iso_sql.specs.declared.statement.Condition.TheOpen.{Condition-F}
use Rattle.iso_sql.specs.declared.statement.Condition.TheVariants as c
use Rattle.iso_sql.specs.declared.statement.Op.{Op}
use Rattle.iso_sql.specs.Names.{Names, column_place, name_fault, place_in}
use Rattle.iso_sql.specs.Rows.{or_null, stored_value}
use Rattle.iso_sql.specs.Sound.{comparisons, comparisons_at, is_comparable, is_number, is_sound_condition, is_typed, of_kind, sound_at}
use Rattle.iso_sql.specs.Actions as act
use Rattle.iso_sql.specs.Actions.{any, both, count_fault, has_kind, hidden, is_value, joined, kind_fault, limited, limited_value, literal_fault, max_depth, negated, nested, unfiltered}
use Rattle.iso_sql.specs.Conditions as gs
use Rattle.iso_sql.proofs.SoundFacts.{and_made, some_same, no_some, no_way, unless_none, at_none, least_none, some_there, declared, column_is, kind_made}

-- ---- literals

abbrev IsLiteral : Token → Type 0
IsLiteral t = (t.kind ≡ k.Integer) ⊎ ((t.kind ≡ k.One) ⊎ (t.kind ≡ k.Text))

literal-is : (ts : List Token) (t : Token) → gs.literal ts t → IsLiteral t
literal-is ts t (inl l) = inl l.1
literal-is ts t (inr (inl l)) = inr (inl l.1)
literal-is ts t (inr (inr l)) = inr (inr l.1)

number : (kind : ColumnKind) (o : Option ℤ) (v : Value) → option_map value.Int o ≡ Some v → is_number kind ≡ true → is_comparable v kind ≡ true
number kind None v e n = no_some v (sym e)
number Integer (Some z) v e n = subst (λ (w : Value). is_comparable w Integer ≡ true) (some_same (value.Int z) v e) refl
number Bigint (Some z) v e n = subst (λ (w : Value). is_comparable w Bigint ≡ true) (some_same (value.Int z) v e) refl
number (Varchar m) (Some z) v e n = no_way n

word : (m : ℕ) (o : Option (List ℕ)) (v : Value) → option_map value.Text o ≡ Some v → is_comparable v (Varchar m) ≡ true
word m None v e = no_some v (sym e)
word m (Some s) v e = subst (λ (w : Value). is_comparable w (Varchar m) ≡ true) (some_same (value.Text s) v e) refl

-- of the kind of a token, whatever its place
abbrev fits_token : ColumnKind → Kind → Bool
fits_token kind j = has_kind kind (record { kind = j; start = 0; end = 0 })

no_text : (kind : ColumnKind) → fits_token kind k.Text ≡ true → (m : ℕ) × (kind ≡ Varchar m)
no_text (Varchar m) e = (m, refl)
no_text Integer e = no_way e
no_text Bigint e = no_way e

is_one_number : (kind : ColumnKind) → fits_token kind k.Integer ≡ true → is_number kind ≡ true
is_one_number (Varchar m) e = no_way e
is_one_number Integer e = refl
is_one_number Bigint e = refl

is_one_one : (kind : ColumnKind) → fits_token kind k.One ≡ true → is_number kind ≡ true
is_one_one (Varchar m) e = no_way e
is_one_one Integer e = refl
is_one_one Bigint e = refl

token_kind : (kind : ColumnKind) (t : Token) (j : Kind) → t.kind ≡ j → has_kind kind t ≡ true → fits_token kind j ≡ true
token_kind (Varchar m) t j e h = sym (ap (same_kind k.Text) e) ∙ h
token_kind Integer t j e h = sym (ap (λ (z : Kind). not (same_kind k.Text z)) e) ∙ h
token_kind Bigint t j e h = sym (ap (λ (z : Kind). not (same_kind k.Text z)) e) ∙ h

comparable : (kind : ColumnKind) (line : List ℕ) (t : Token) (v : Value) → IsLiteral t → has_kind kind t ≡ true → value_of line t ≡ Some v → is_comparable v kind ≡ true
unfolding value_of
comparable kind line t v (inl i) h e = number kind (integer (text_of line t)) v (sym (ap (λ (z : Kind). said.literal z (text_of line t)) i) ∙ e) (is_one_number kind (token_kind kind t k.Integer i h))
comparable kind line t v (inr (inl i)) h e = number kind (integer (text_of line t)) v (sym (ap (λ (z : Kind). said.literal z (text_of line t)) i) ∙ e) (is_one_one kind (token_kind kind t k.One i h))
comparable kind line t v (inr (inr i)) h e =
    let m = no_text kind (token_kind kind t k.Text i h) in
    subst (λ (j : ColumnKind). is_comparable v j ≡ true) (sym m.1) (word m.0 (text (text_of line t)) v (sym (ap (λ (z : Kind). said.literal z (text_of line t)) i) ∙ e))

-- a literal without a fault may be compared with its column
typed_literal : (names : Names) (column t : Token) → IsLiteral t → name_fault names column ≡ None → literal_fault names column t ≡ None
    → of_kind names.columns (place_in (column_place names column)) (is_comparable (stored_value names.line t)) ≡ true
unfolding literal_fault stored_value
typed_literal names column t i n l =
    let d = declared names column n in
    let f : kind_fault (Some d.1) names.line t ≡ None = sym (ap (λ (o : Option Column). kind_fault o names.line t) (column_is names column d.0 d.2 ∙ d.3)) ∙ l in
    let w = kinds d.1 names.line t f in
    let v = some_there (value_of names.line t) w.1 in
    ap (λ (o : Option ℕ). of_kind names.columns (place_in o) (is_comparable (or_null (value_of names.line t)))) d.2
    ∙ kind_made names.columns d.0 d.1 (is_comparable (or_null (value_of names.line t))) d.3
    (ap (λ (o : Option Value). is_comparable (or_null o) d.1.kind) v.1 ∙ comparable d.1.kind names.line t v.0 i w.0 v.1)
  where
    kinds : (d : Column) (line : List ℕ) (t : Token) → kind_fault (Some d) line t ≡ None → (has_kind d.kind t ≡ true) × (is_value line t ≡ true)
    kinds d line t e = elim (decide (has_kind d.kind t)) [
      | inl h ↦ (h, unless_none (is_value line t) t Limit (sym (ap (λ b. cond b (unless (is_value line t) t Limit) (at t TypeFault)) h) ∙ e))
      | inr h ↦ at_none t TypeFault (sym (ap (λ b. cond b (unless (is_value line t) t Limit) (at t TypeFault)) h) ∙ e)
    ]

-- ---- levels of a condition

always-count : comparisons c.Always ≡ 0
unfolding Rattle.iso_sql.specs.declared.statement.Condition.TheViews.roll-Condition denote.Hole.Carrier.roll
always-count = fold-roll-Condition ℕ comparisons_at Condition-F.Always

compare-count : (place : ℕ) (how : Op) (v : Value) → comparisons (c.Compare place how v) ≡ 1
unfolding Rattle.iso_sql.specs.declared.statement.Condition.TheViews.roll-Condition denote.Hole.Carrier.roll
compare-count place how v = fold-roll-Condition ℕ comparisons_at (Condition-F.Compare place how v)

between-count : (place : ℕ) (v w : Value) → comparisons (c.Between place v w) ≡ 1
unfolding Rattle.iso_sql.specs.declared.statement.Condition.TheViews.roll-Condition denote.Hole.Carrier.roll
between-count place v w = fold-roll-Condition ℕ comparisons_at (Condition-F.Between place v w)

null-count : (place : ℕ) → comparisons (c.IsNull place) ≡ 1
unfolding Rattle.iso_sql.specs.declared.statement.Condition.TheViews.roll-Condition denote.Hole.Carrier.roll
null-count place = fold-roll-Condition ℕ comparisons_at (Condition-F.IsNull place)

not-count : (a : Condition) → comparisons (c.Not a) ≡ comparisons a
unfolding Rattle.iso_sql.specs.declared.statement.Condition.TheViews.roll-Condition denote.Hole.Carrier.roll
not-count a = fold-roll-Condition ℕ comparisons_at (Condition-F.Not a)

and-count : (a b : Condition) → comparisons (c.And a b) ≡ comparisons a + comparisons b
unfolding Rattle.iso_sql.specs.declared.statement.Condition.TheViews.roll-Condition denote.Hole.Carrier.roll
and-count a b = fold-roll-Condition ℕ comparisons_at (Condition-F.And a b)

or-count : (a b : Condition) → comparisons (c.Or a b) ≡ comparisons a + comparisons b
unfolding Rattle.iso_sql.specs.declared.statement.Condition.TheViews.roll-Condition denote.Hole.Carrier.roll
or-count a b = fold-roll-Condition ℕ comparisons_at (Condition-F.Or a b)

module _ (columns : List Column) where
  always-typed : is_typed columns c.Always ≡ true
  unfolding Rattle.iso_sql.specs.declared.statement.Condition.TheViews.roll-Condition denote.Hole.Carrier.roll
  always-typed = fold-roll-Condition Bool (sound_at columns) Condition-F.Always

  compare-typed : (place : ℕ) (how : Op) (v : Value) → is_typed columns (c.Compare place how v) ≡ of_kind columns place (is_comparable v)
  unfolding Rattle.iso_sql.specs.declared.statement.Condition.TheViews.roll-Condition denote.Hole.Carrier.roll
  compare-typed place how v = fold-roll-Condition Bool (sound_at columns) (Condition-F.Compare place how v)

  between-typed : (place : ℕ) (v w : Value) → is_typed columns (c.Between place v w) ≡ (of_kind columns place (is_comparable v) && of_kind columns place (is_comparable w))
  unfolding Rattle.iso_sql.specs.declared.statement.Condition.TheViews.roll-Condition denote.Hole.Carrier.roll
  between-typed place v w = fold-roll-Condition Bool (sound_at columns) (Condition-F.Between place v w)

  null-typed : (place : ℕ) → is_typed columns (c.IsNull place) ≡ nat_lt place (length columns)
  unfolding Rattle.iso_sql.specs.declared.statement.Condition.TheViews.roll-Condition denote.Hole.Carrier.roll
  null-typed place = fold-roll-Condition Bool (sound_at columns) (Condition-F.IsNull place)

  not-typed : (a : Condition) → is_typed columns (c.Not a) ≡ is_typed columns a
  unfolding Rattle.iso_sql.specs.declared.statement.Condition.TheViews.roll-Condition denote.Hole.Carrier.roll
  not-typed a = fold-roll-Condition Bool (sound_at columns) (Condition-F.Not a)

  and-typed : (a b : Condition) → is_typed columns (c.And a b) ≡ (is_typed columns a && is_typed columns b)
  unfolding Rattle.iso_sql.specs.declared.statement.Condition.TheViews.roll-Condition denote.Hole.Carrier.roll
  and-typed a b = fold-roll-Condition Bool (sound_at columns) (Condition-F.And a b)

  or-typed : (a b : Condition) → is_typed columns (c.Or a b) ≡ (is_typed columns a && is_typed columns b)
  unfolding Rattle.iso_sql.specs.declared.statement.Condition.TheViews.roll-Condition denote.Hole.Carrier.roll
  or-typed a b = fold-roll-Condition Bool (sound_at columns) (Condition-F.Or a b)

-- ---- conditions

le_by : (n m top : ℕ) → n ≡ m → m ≤ top → n ≤ top
le_by n m top e l = omega (arith, e, l)

-- no more comparisons than are counted; and where it has no fault, each column is there and each literal has its kind
abbrev Good : List Column → Found → Type 0
Good columns x = (comparisons x.value ≤ length x.places) × (x.fault ≡ None → is_typed columns x.value ≡ true)

module _ (names : Names) where
  compared-good : (column : Token) (how : Op) (t : Token) → IsLiteral t → Good names.columns (act.compared names column how t)
  unfolding act.compared
  compared-good column how t i = (le_by _ 1 1 (compare-count _ how _) (omega arith), λ e. let l = least_none (name_fault names column) (literal_fault names column t) e in compare-typed names.columns _ how _ ∙ typed_literal names column t i l.0 l.1)

  between-good : (column low high : Token) → IsLiteral low → IsLiteral high → Good names.columns (act.between names column low high)
  unfolding act.between
  between-good column low high i j = (
    le_by _ 1 1 (between-count _ _ _) (omega arith),
    λ e.
        let l = least_none (name_fault names column) (least (literal_fault names column low) (literal_fault names column high)) e in
        let m = least_none (literal_fault names column low) (literal_fault names column high) l.1 in
        between-typed names.columns _ _ _ ∙ and_made _ _ (typed_literal names column low i l.0 m.0) (typed_literal names column high j l.0 m.1),
  )

  null-good : (column : Token) → Good names.columns (act.is_null names column)
  unfolding act.is_null
  null-good column = (
    le_by _ 1 1 (null-count _) (omega arith),
    λ e.
        let d = declared names column e in
        null-typed names.columns _ ∙ ap (λ (o : Option ℕ). nat_lt (place_in o) (length names.columns)) d.2 ∙ lt-ltb d.0 (length names.columns) (slice_get_within names.columns d.0 d.1 d.3),
  )

  negated-good : (w : Option Token) (x : Found) → Good names.columns x → Good names.columns (negated w x)
  negated-good None x h = h
  negated-good (Some t) x h = (le_by _ _ _ (not-count x.value) h.0, λ e. not-typed names.columns x.value ∙ h.1 e)

  hidden-good : (t : Token) → Good names.columns (hidden t)
  hidden-good t = (le_by _ 0 0 always-count (omega arith), λ e. always-typed names.columns)

  nested-good : (depth : ℕ) (t : Token) (x : Found) → Good names.columns x → Good names.columns (nested depth t x)
  nested-good depth t x h = elim (nat_lt depth max_depth) as (λ b. Good names.columns (cond b x (hidden t))) [ true ↦ h | false ↦ hidden-good t ]

  joined-good : (y : Condition) (a b : Found) → comparisons y ≤ comparisons a.value + comparisons b.value → (is_typed names.columns a.value ≡ true → is_typed names.columns b.value ≡ true → is_typed names.columns y ≡ true)
      → Good names.columns a → Good names.columns b → Good names.columns (joined y a b)
  joined-good y a b few typed ga gb =
      (at_most (nat_le (length (a.places ++ b.places)) 64), λ e. let l = least_none a.fault b.fault e in is_well (nat_le (length (a.places ++ b.places)) 64) (typed (ga.1 l.0) (gb.1 l.1)))
    where
      at_most : (v : Bool) → comparisons (cond v y c.Always) ≤ length (a.places ++ b.places)
      at_most true = omega (arith, few, ga.0, gb.0, length-append a.places b.places)
      at_most false = le_by _ 0 _ always-count (omega arith)

      is_well : (v : Bool) → is_typed names.columns y ≡ true → is_typed names.columns (cond v y c.Always) ≡ true
      is_well true t = t
      is_well false t = always-typed names.columns

  both-good : (a b : Found) → Good names.columns a → Good names.columns b → Good names.columns (both a b)
  unfolding both
  both-good a b ga gb = joined-good (c.And a.value b.value) a b (le_by _ _ _ (and-count a.value b.value) (omega arith)) (λ p q. and-typed names.columns a.value b.value ∙ and_made _ _ p q) ga gb

  any-good : (a b : Found) → Good names.columns a → Good names.columns b → Good names.columns (any a b)
  unfolding any
  any-good a b ga gb = joined-good (c.Or a.value b.value) a b (le_by _ _ _ (or-count a.value b.value) (omega arith)) (λ p q. or-typed names.columns a.value b.value ∙ and_made _ _ p q) ga gb

  fold-good : (f : Found → Found → Found) (L : Lang Found) → ((a b : Found) → Good names.columns a → Good names.columns b → Good names.columns (f a b)) → ((ts : List Token) (x : Found) → L ts x → Good names.columns x)
      → (xs : List Found) (ts : List Token) (first : Found) → Good names.columns first → g.many L ts xs → Good names.columns (fold f first xs)
  fold-good f L keeps all [] ts first h m = h
  fold-good f L keeps all (x ∷ xs) ts first h m = fold-good f L keeps all xs m.1 (f first x) (keeps first x h (all m.0 x m.3)) m.4

  comparison-good : (ts : List Token) (x : Found) → gs.comparison names ts x → Good names.columns x
  comparison-good ts x (column, _, _, _, _, inl l) =
      let h = l.5 in let lo = h.5 in let a = lo.5 in let hi = a.5 in
      subst (Good names.columns) (sym hi.5.1) (negated-good l.0 _ (between-good column lo.0 hi.0 (literal-is lo.1 lo.0 lo.4) (literal-is hi.1 hi.0 hi.4)))
  comparison-good ts x (column, _, _, _, _, inr (inl l)) =
      let n = l.5 in
      subst (Good names.columns) (sym n.5.5.1) (negated-good n.0 _ (null-good column))
  comparison-good ts x (column, _, _, _, _, inr (inr l)) =
      let v = l.5 in
      subst (Good names.columns) (sym v.5.1) (compared-good column l.0 v.0 (literal-is v.1 v.0 v.4))

  module _ (paren : Lang Found) (inner : (ts : List Token) (x : Found) → paren ts x → Good names.columns x) where
    negation-good : (ts : List Token) (x : Found) → gs.negation names paren ts x → Good names.columns x
    negation-good ts x l =
        let m = l.5 in
        subst (Good names.columns) (sym m.5.1) (negated-good l.0 m.0 (elim m.4 [ inl p ↦ inner m.1 m.0 p | inr q ↦ comparison-good m.1 m.0 q ]))

    conjunction-good : (ts : List Token) (x : Found) → gs.conjunction names paren ts x → Good names.columns x
    conjunction-good ts x l =
        let m = l.5 in
        subst (Good names.columns) (sym m.5.1) (fold-good both (g.◌>>◌ (g.token k.And) (gs.negation names paren)) both-good (λ us y w. negation-good w.2 y w.5) m.0 m.1 l.0 (negation-good l.1 l.0 l.4) m.4)

    disjunction-good : (ts : List Token) (x : Found) → gs.disjunction names paren ts x → Good names.columns x
    disjunction-good ts x l =
        let m = l.5 in
        subst (Good names.columns) (sym m.5.1) (fold-good any (g.◌>>◌ (g.token k.Or) (gs.conjunction names paren)) any-good (λ us y w. conjunction-good w.2 y w.5) m.0 m.1 l.0 (conjunction-good l.1 l.0 l.4) m.4)

  paren-good : (n depth : ℕ) (ts : List Token) (x : Found) → gs.paren_below names n depth ts x → Good names.columns x
  paren-good zero depth ts x l = absurd l
  paren-good (suc n) depth ts x l =
      let m = l.5 in
      subst (Good names.columns) (sym m.5.5.1) (nested-good depth l.0 m.0 (disjunction-good (gs.paren_below names n (depth + 1)) (λ us y w. paren-good n (depth + 1) us y w) m.1 m.0 m.4))

  condition-good : (ts : List Token) (x : Found) → gs.condition names ts x → Good names.columns x
  condition-good ts x l = disjunction-good (gs.paren names 0) (λ us y w. paren-good w.0 0 us y w.1) ts x l

  -- a whole condition without a fault
  pub limited-sound : (ts : List Token) (x : Found) → gs.condition names ts x → (limited x).fault ≡ None → is_sound_condition names.columns (limited x).value ≡ true
  unfolding limited
  limited-sound ts x l e =
      let h = condition-good ts x l in
      let n = least_none x.fault (count_fault x.places) e in
      and_made _ _ (h.1 n.0) (le-leb (comparisons x.value) 64 (omega (arith, h.0, few x.places n.1)))
    where
      few : (places : List ℕ) → count_fault places ≡ None → length places ≤ 64
      few places e = elim (slice_get_cases places 64).1 [
        | inl w ↦ no_some _ (sym (ap (option_map (λ (place : ℕ). record { place = place; cause = Limit })) w.2) ∙ e)
        | inr w ↦ w.0
      ]

  pub unfiltered-sound : is_sound_condition names.columns unfiltered.value ≡ true
  unfiltered-sound = and_made _ _ (always-typed names.columns) (ap (λ (n : ℕ). nat_le n 64) always-count)
