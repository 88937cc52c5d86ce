-- A statement that is read without a fault is sound.
use Rattle.std.proofs.Common.{◌≡◌, ℕ, Bool, true, cond, List, [], ◌∷◌, length, map, Option, Some, None, refl, sym, ap, subst, ◌∙◌, inl, inr}
use Rattle.std.proofs.lemmas.List.{length-map}
use Rattle.std.specs.Char.{to_ascii_uppercase}
use Rattle.std.specs.Prelude.{◌||◌, nat_le, IfOk, Result, Ok, Err}
use Rattle.iso_types.specs.declared.head.Column.{Column}
use Rattle.iso_types.specs.declared.head.Head.{Head}
use Rattle.iso_types.specs.declared.head.Isolation.{Isolation}
use Rattle.iso_modes.specs.Modes.{mode_eq, mode_number}
use Rattle.iso_modes.specs.declared.Mode.{Mode}
use Rattle.iso_modes.specs.declared.Mode.TheVariants.{S, X}
use Rattle.iso_grammar.specs.declared.fault.Cause.TheVariants.{Limit}
use Rattle.iso_grammar.specs.declared.fault.Checked.{Checked}
use Rattle.iso_grammar.specs.declared.token.Token.{Token}
use Rattle.iso_grammar.specs.Faults.{checked, least}
use Rattle.iso_grammar.specs.Values.{name, text_of}
use Rattle.iso_grammar.proofs.Choices.{decide}
use Rattle.iso_sql.specs.declared.assignment.Target.{Target}
use Rattle.iso_sql.specs.declared.list.Chosen.{Chosen}
use Rattle.iso_sql.specs.declared.statement.Condition.{Condition}
use Rattle.iso_sql.specs.declared.statement.Statement.{Statement}
use Rattle.iso_sql.specs.Names.{name_of, table_fault, table_names, table_of}
use Rattle.iso_sql.specs.Sound.{are_sound_items, are_sound_sets, are_stored, columns_of, is_short, is_sound_condition, is_sound_statement}
use Rattle.iso_sql.specs.Actions.{assigned, deleted, inserted, items_of, limited, locked, rolled_back, rolled_back_as, rolled_back_to, row_of, saved, saved_as, selected, updated}
use Rattle.iso_sql.specs.Statements as gs
use Rattle.iso_sql.specs.Texts.{Answers}
use Rattle.iso_sql.specs.declared.fault.SqlFault.{SqlFault}
use Rattle.iso_grammar.specs.Lex.{tokens}
use Rattle.iso_sql.proofs.SoundFacts.{and_made, some_same, no_some, at_none, least_none, columns_are, table_there}
use Rattle.iso_sql.proofs.SoundConditions.{limited-sound, unfiltered-sound}
use Rattle.iso_sql.proofs.SoundRows.{is_there, items-sound, row-sound}
use Rattle.iso_sql.proofs.SoundSets.{sets-sound}

module _ (head : Head) (line : List ℕ) where
  abbrev IsWell : Checked Statement → Type 0
  IsWell x = x.fault ≡ None → is_sound_statement head x.value ≡ true

  -- what is sound over the columns of the names is so over those of the table
  over : (t : Token) (p : List Column → Bool) → table_fault (table_names head line t) t ≡ None → p (table_names head line t).columns ≡ true → p (columns_of head (table_of head line t)) ≡ true
  over t p e q = ap p (columns_are head line t e) ∙ q

  filter-sound : (t : Token) (ts : List Token) (cond : Checked Condition) → gs.filter (table_names head line t) ts cond → cond.fault ≡ None → is_sound_condition (table_names head line t).columns cond.value ≡ true
  filter-sound t ts cond (inl l) e =
      let m = l.5 in
      let is : cond ≡ limited m.0 = m.5.1 in
      subst (λ (z : Checked Condition). is_sound_condition (table_names head line t).columns z.value ≡ true) (sym is) (limited-sound (table_names head line t) m.1 m.0 m.4 (ap (λ (z : Checked Condition). z.fault) (sym is) ∙ e))
  filter-sound t ts cond (inr l) e = subst (λ (z : Checked Condition). is_sound_condition (table_names head line t).columns z.value ≡ true) (sym l.1) (unfiltered-sound (table_names head line t))

  select-sound : (ts : List Token) (x : Checked Statement) → gs.select head line ts x → IsWell x
  unfolding selected
  select-sound ts x l = subst IsWell (sym l.5.5.5.5.5.5.1) (go l.5.0 l.5.1 l.5.4 l.5.5.5.0 l.5.5.5.5.0 l.5.5.5.5.1 l.5.5.5.5.4 l.5.5.5.5.5.0)
    where
      go : (is : Chosen) (us : List Token) → gs.items us is → (t : Token) (cond : Checked Condition) (vs : List Token) → gs.filter (table_names head line t) vs cond → (level : Option Isolation) → IsWell (selected head line is t cond level)
      go is us i t cond vs f level e =
          let a = least_none (items_of (table_names head line t) is).fault (least (table_fault (table_names head line t) t) cond.fault) e in
          let b = least_none (table_fault (table_names head line t) t) cond.fault a.1 in
          and_made _ _ (table_there head line t b.0) (and_made _ _
          (over t (λ columns. are_sound_items columns (items_of (table_names head line t) is).value) b.0 (items-sound (table_names head line t) us is i a.0))
          (over t (λ columns. is_sound_condition columns cond.value) b.0 (filter-sound t vs cond f b.1)))

  insert-sound : (ts : List Token) (x : Checked Statement) → gs.insert head line ts x → IsWell x
  unfolding inserted
  insert-sound ts x l = subst IsWell (sym l.5.5.5.5.5.5.5.5.1) (go l.5.5.0 l.5.5.5.0 l.5.5.5.5.5.5.0 l.5.5.5.5.5.5.5.0)
    where
      go : (t : Token) (columns : Option (List Token)) (literals : List Token) (close : Token) → IsWell (inserted head line t columns literals close)
      go t columns literals close e =
          let a = least_none (table_fault (table_names head line t) t) (row_of (table_names head line t) columns literals close).fault e in
          and_made _ _ (table_there head line t a.0) (over t (λ cs. are_stored cs (row_of (table_names head line t) columns literals close).value) a.0 (row-sound (table_names head line t) columns literals close a.1))

  update-sound : (ts : List Token) (x : Checked Statement) → gs.update head line ts x → IsWell x
  unfolding updated
  update-sound ts x l = subst IsWell (sym l.5.5.5.5.5.5.1) (go l.5.0 l.5.5.5.0 l.5.5.5.1 l.5.5.5.4 l.5.5.5.5.0 l.5.5.5.5.1 l.5.5.5.5.4 l.5.5.5.5.5.0)
    where
      go : (t : Token) (targets : List Target) (us : List Token) → gs.assignments us targets → (cond : Checked Condition) (vs : List Token) → gs.filter (table_names head line t) vs cond → (level : Option Isolation) → IsWell (updated head line t targets cond level)
      go t targets us i cond vs f level e =
          let a = least_none (table_fault (table_names head line t) t) (least (assigned (table_names head line t) [] targets).fault cond.fault) e in
          let b = least_none (assigned (table_names head line t) [] targets).fault cond.fault a.1 in
          let is : targets ≡ i.0 ∷ i.5.0 = i.5.5.1 in
          and_made _ _ (table_there head line t a.0) (and_made _ _
          (over t (λ columns. are_sound_sets columns (assigned (table_names head line t) [] targets).value) a.0
          (subst (λ (z : List Target). are_sound_sets (table_names head line t).columns (assigned (table_names head line t) [] z).value ≡ true) (sym is)
          (sets-sound (table_names head line t) i.0 i.5.0 (ap (λ (z : List Target). (assigned (table_names head line t) [] z).fault) (sym is) ∙ b.0))))
          (over t (λ columns. is_sound_condition columns cond.value) a.0 (filter-sound t vs cond f b.1)))

  delete-sound : (ts : List Token) (x : Checked Statement) → gs.delete head line ts x → IsWell x
  unfolding deleted
  delete-sound ts x l = subst IsWell (sym l.5.5.5.5.5.1) (go l.5.5.0 l.5.5.5.0 l.5.5.5.1 l.5.5.5.4 l.5.5.5.5.0)
    where
      go : (t : Token) (cond : Checked Condition) (vs : List Token) → gs.filter (table_names head line t) vs cond → (level : Option Isolation) → IsWell (deleted head line t cond level)
      go t cond vs f level e =
          let a = least_none (table_fault (table_names head line t) t) cond.fault e in
          and_made _ _ (table_there head line t a.0) (over t (λ columns. is_sound_condition columns cond.value) a.0 (filter-sound t vs cond f a.1))

  short : (t : Token) (n : List ℕ) → name_of line t ≡ Some n → is_short n ≡ true
  unfolding name
  short t n e = elim (decide (nat_le (length (text_of line t)) 32)) [
    | inl b ↦
        let same : map to_ascii_uppercase (text_of line t) ≡ n = some_same _ _ (sym (ap (λ v. cond v (Some (map to_ascii_uppercase (text_of line t))) None) b) ∙ e) in
        ap (λ (m : List ℕ). nat_le (length m) 32) (sym same) ∙ ap (λ (m : ℕ). nat_le m 32) (length-map (text_of line t) to_ascii_uppercase) ∙ b
    | inr b ↦ no_some n (sym e ∙ ap (λ v. cond v (Some (map to_ascii_uppercase (text_of line t))) None) b)
  ]

  saved-sound : (t : Token) → IsWell (saved line t)
  unfolding saved
  saved-sound t e = elim (is_there (name_of line t)) [
    | inl n ↦ at_none t Limit (sym (ap (λ (o : Option (List ℕ)). (saved_as t o).fault) n) ∙ e)
    | inr w ↦ ap (λ (o : Option (List ℕ)). is_sound_statement head (saved_as t o).value) w.1 ∙ short t w.0 w.1
  ]

  back-sound : (o : Option Token) → IsWell (rolled_back line o)
  unfolding rolled_back_to
  back-sound None e = refl
  back-sound (Some t) e = elim (is_there (name_of line t)) [
    | inl n ↦ at_none t Limit (sym (ap (λ (o : Option (List ℕ)). (rolled_back_as t o).fault) n) ∙ e)
    | inr w ↦ ap (λ (o : Option (List ℕ)). is_sound_statement head (rolled_back_as t o).value) w.1 ∙ short t w.0 w.1
  ]

  mode-sound : (ts : List Token) (m : Mode) → gs.lock_mode ts m → (mode_eq m S || mode_eq m X) ≡ true
  unfolding mode_eq mode_number
  mode-sound ts m (inl l) = ap (λ (z : Mode). mode_eq z S || mode_eq z X) l.5.1
  mode-sound ts m (inr l) = ap (λ (z : Mode). mode_eq z S || mode_eq z X) l.5.1

  lock-sound : (ts : List Token) (x : Checked Statement) → gs.lock head line ts x → IsWell x
  unfolding locked
  lock-sound ts x l = subst IsWell (sym l.5.5.5.5.5.5.1) (go l.5.5.0 l.5.5.5.5.0 l.5.5.5.5.1 l.5.5.5.5.4)
    where
      go : (t : Token) (m : Mode) (us : List Token) → gs.lock_mode us m → IsWell (locked head line t m)
      go t m us i e = and_made _ _ (table_there head line t e) (mode-sound us m i)

  level-sound : (ts : List Token) (x : Checked Statement) → gs.set_isolation ts x → IsWell x
  level-sound ts x l = subst IsWell (sym l.5.5.5.1) (λ e. refl)

  wait-sound : (ts : List Token) (x : Checked Statement) → gs.set_timeout ts x → IsWell x
  wait-sound ts x l = subst IsWell (sym l.5.5.5.5.1) (λ e. refl)

  set-sound : (ts : List Token) (x : Checked Statement) → gs.set ts x → IsWell x
  set-sound ts x l = elim l.5 [
    | inl m ↦ level-sound l.2 x m
    | inr m ↦ elim m.5 [ inl n ↦ level-sound m.2 x n | inr n ↦ wait-sound m.2 x n ]
  ]

  pub statement-sound : (ts : List Token) (x : Checked Statement) → gs.statement head line ts x → x.fault ≡ None → is_sound_statement head x.value ≡ true
  statement-sound ts x (inl l) = select-sound ts x l
  statement-sound ts x (inr (inl l)) = insert-sound ts x l
  statement-sound ts x (inr (inr (inl l))) = update-sound ts x l
  statement-sound ts x (inr (inr (inr (inl l)))) = delete-sound ts x l
  statement-sound ts x (inr (inr (inr (inr (inl l))))) = subst IsWell (sym l.5.5.1) (λ e. refl)
  statement-sound ts x (inr (inr (inr (inr (inr (inl l)))))) = subst IsWell (sym l.5.5.5.1) (back-sound l.5.5.0)
  statement-sound ts x (inr (inr (inr (inr (inr (inr (inl l))))))) = subst IsWell (sym l.5.5.5.1) (saved-sound l.5.0)
  statement-sound ts x (inr (inr (inr (inr (inr (inr (inr (inl l)))))))) = lock-sound ts x l
  statement-sound ts x (inr (inr (inr (inr (inr (inr (inr (inr l)))))))) = set-sound ts x l

-- what the reader answers with Ok is sound
pub answer-sound : (head : Head) (text : List ℕ) (r : Result Statement SqlFault) → Answers head text r → IfOk r (λ x. is_sound_statement head x ≡ true)
answer-sound head text (Ok x) a = statement-sound head text (tokens text) (checked x None) a refl
answer-sound head text (Err e) a = tt
