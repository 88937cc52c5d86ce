-- What a text says is one thing, and what is wrong with it is one thing.
use Rattle.std.proofs.Common.{◌≡◌, ℕ, List, length, Option, Some, None, Result, Ok, Err, refl, sym, ap, ◌∙◌, inl, inr, subst, ◌⊎◌}
use Rattle.iso_types.specs.declared.head.Head.{Head}
use Rattle.iso_grammar.specs.declared.fault.Cause.{Cause}
use Rattle.iso_grammar.specs.declared.fault.Cause.TheVariants as cause
use Rattle.iso_grammar.specs.declared.fault.Checked.{Checked}
use Rattle.iso_grammar.specs.declared.fault.Fault.{Fault}
use Rattle.iso_grammar.specs.declared.token.Token.{Token}
use Rattle.iso_grammar.specs.Faults.{checked, place_of}
use Rattle.iso_grammar.specs.Grammar.{StopsAt}
use Rattle.iso_grammar.specs.Lex.{tokens}
use Rattle.iso_grammar.proofs.Whole as whole
use Rattle.iso_sql.specs.declared.fault.SqlFault.{SqlFault}
use Rattle.iso_sql.specs.declared.fault.SqlFault.TheVariants as fault
use Rattle.iso_sql.specs.declared.statement.Statement.{Statement}
use Rattle.iso_sql.specs.Statements.{statement}
use Rattle.iso_sql.specs.Texts.{Reads, Refuses, Answers, IsFaulty, IsOrMemory, IsTold, as_fault}
use Rattle.iso_sql.proofs.StatementLaws.{statement-reads}

module _ (head : Head) (text : List ℕ) where
  -- a text has one meaning, with one fault at most
  same : (x y : Checked Statement) → statement head text (tokens text) x → statement head text (tokens text) y → x ≡ y
  same x y a b = whole.one_meaning (statement-reads head text) (tokens text) x y a b

  apart : {A : Type 0} (x : Checked Statement) (left : ℕ) → statement head text (tokens text) x → StopsAt (statement head text) (tokens text) left → A
  apart x left a b = absurd (whole.not_both (statement-reads head text) (tokens text) x left a b)

  some_none : {A : Type 0} (f : Fault) → Some f ≡ None → A
  some_none f e = absurd cc

  -- a text with a fault has none that is without
  clean : {A : Type 0} (x y : Statement) (f : Fault) → statement head text (tokens text) (checked x (Some f)) → statement head text (tokens text) (checked y None) → A
  clean x y f a b = some_none f (ap (λ (z : Checked Statement). z.fault) (same (checked x (Some f)) (checked y None) a b))

  value_same : (x y : Statement) → statement head text (tokens text) (checked x None) → statement head text (tokens text) (checked y None) → x ≡ y
  value_same x y a b = ap (λ (z : Checked Statement). z.value) (same (checked x None) (checked y None) a b)

  got : Option Fault → Fault → Fault
  got None d = d
  got (Some f) d = f

  same_told : (why other : Cause) (place q : ℕ) → IsFaulty head text why place → IsFaulty head text other q → as_fault other q ≡ as_fault why place
  unfolding got
  same_told why other place q a b =
      let e = same (checked b.0 (Some (record { place = q; cause = other }))) (checked a.0 (Some (record { place = place; cause = why }))) b.1 a.1 in
      let d : Fault = record { place = place; cause = why } in
      ap (λ (z : Checked Statement). as_fault (got z.fault d).cause (got z.fault d).place) e

  -- what is told of a cause and a place
  tells : (why : Cause) (place : ℕ) → IsFaulty head text why place → Refuses head text (as_fault why place)
  tells cause.Unknown place r = r
  tells cause.TypeFault place r = r
  tells cause.Duplicate place r = r
  tells cause.Limit place r = r

  -- a fault that was found is that of the text
  pub told_fault : (found : List Token) (x : Checked Statement) (f : Fault) (e : SqlFault) → found ≡ tokens text → statement head text found x → x.fault ≡ Some f → e ≡ as_fault f.cause f.place → Refuses head text e
  told_fault found x f e at st is ee =
      let here = subst (λ (ts : List Token). statement head text ts x) at st in
      subst (Refuses head text) (sym ee) (tells f.cause f.place (x.value, subst (statement head text (tokens text)) (ap (λ (g : Option Fault). checked x.value g) is) here))

  -- a statement without a fault is that of the text
  pub told_value : (found : List Token) (x : Checked Statement) → found ≡ tokens text → statement head text found x → x.fault ≡ None → Reads head text x.value
  told_value found x at st is =
      subst (statement head text (tokens text)) (ap (λ (g : Option Fault). checked x.value g) is) (subst (λ (ts : List Token). statement head text ts x) at st)

  -- a text that is read is not refused
  pub only : (x : Statement) (r : Result Statement SqlFault) → Reads head text x → Answers head text r → IsOrMemory r (Ok x)
  only x (Ok y) a b = inl (ap Ok (value_same y x b a))
  only x (Err (fault.Syntax p)) a b = apart (checked x None) b.0 a b.1
  only x (Err (fault.Unknown p)) a b = clean b.0 x _ b.1 a
  only x (Err (fault.TypeFault p)) a b = clean b.0 x _ b.1 a
  only x (Err (fault.Duplicate p)) a b = clean b.0 x _ b.1 a
  only x (Err (fault.Limit p)) a b = clean b.0 x _ b.1 a
  only x (Err fault.Memory) a b = inr refl

  faulty : (why : Cause) (place : ℕ) (r : Result Statement SqlFault) → IsFaulty head text why place → Answers head text r → IsOrMemory r (Err (as_fault why place))
  faulty why place (Ok y) a b = clean a.0 y _ a.1 b
  faulty why place (Err (fault.Syntax p)) a b = apart _ b.0 a.1 b.1
  faulty why place (Err (fault.Unknown p)) a b = inl (ap Err (same_told why cause.Unknown place p a b))
  faulty why place (Err (fault.TypeFault p)) a b = inl (ap Err (same_told why cause.TypeFault place p a b))
  faulty why place (Err (fault.Duplicate p)) a b = inl (ap Err (same_told why cause.Duplicate place p a b))
  faulty why place (Err (fault.Limit p)) a b = inl (ap Err (same_told why cause.Limit place p a b))
  faulty why place (Err fault.Memory) a b = inr refl

  broken : (place : ℕ) (r : Result Statement SqlFault) → Refuses head text (fault.Syntax place) → Answers head text r → IsOrMemory r (Err (fault.Syntax place))
  broken place (Ok y) a b = apart (checked y None) a.0 b a.1
  broken place (Err (fault.Syntax p)) a b =
      inl (ap (λ (n : ℕ). Err (fault.Syntax n)) (b.2 ∙ ap (λ (left : ℕ). place_of (tokens text) left (length text)) (whole.one_place (statement-reads head text) (tokens text) b.0 a.0 b.1 a.1) ∙ sym a.2))
  broken place (Err (fault.Unknown p)) a b = apart _ a.0 b.1 a.1
  broken place (Err (fault.TypeFault p)) a b = apart _ a.0 b.1 a.1
  broken place (Err (fault.Duplicate p)) a b = apart _ a.0 b.1 a.1
  broken place (Err (fault.Limit p)) a b = apart _ a.0 b.1 a.1
  broken place (Err fault.Memory) a b = inr refl

  -- a text that is refused is not read, and refused in one way
  pub only_fault : (e : SqlFault) (r : Result Statement SqlFault) → IsTold e → Refuses head text e → Answers head text r → IsOrMemory r (Err e)
  only_fault (fault.Syntax p) r t a b = broken p r a b
  only_fault (fault.Unknown p) r t a b = faulty cause.Unknown p r a b
  only_fault (fault.TypeFault p) r t a b = faulty cause.TypeFault p r a b
  only_fault (fault.Duplicate p) r t a b = faulty cause.Duplicate p r a b
  only_fault (fault.Limit p) r t a b = faulty cause.Limit p r a b
  only_fault fault.Memory r t a b = absurd t

  -- ---- each text has one answer

  told : (why : Cause) (place : ℕ) → IsTold (as_fault why place)
  told cause.Unknown place = tt
  told cause.TypeFault place = tt
  told cause.Duplicate place = tt
  told cause.Limit place = tt

  abbrev Way : Type 0
  Way = ((x : Statement) × Reads head text x) ⊎ ((e : SqlFault) × IsTold e × Refuses head text e)

  judge : (x : Statement) (f : Option Fault) → statement head text (tokens text) (checked x f) → Way
  judge x None l = inl (x, l)
  judge x (Some f) l = inr (as_fault f.cause f.place, told f.cause f.place, tells f.cause f.place (x, l))

  pub one_way : Way
  one_way = elim (whole.either_way (statement-reads head text) (tokens text)) [
    | inl w ↦ judge w.0.value w.0.fault w.1
    | inr w ↦ inr (fault.Syntax (place_of (tokens text) w.0 (length text)), tt, (w.0, w.1, refl))
  ]

  err_ok : {A : Type 0} (e : SqlFault) (x : Statement) → Err e ≡ Ok x → A
  err_ok e x is = absurd cc

  abbrev failed : SqlFault → Result Statement SqlFault
  failed e = Err e

  err_same : (e f : SqlFault) → failed e ≡ failed f → e ≡ f
  err_same e f is = cc

  no_memory : {A : Type 0} (e : SqlFault) → IsTold e → failed e ≡ failed fault.Memory → A
  no_memory e t is = absurd (subst IsTold (err_same e fault.Memory is) t)

  pub not_both : (x : Statement) (e : SqlFault) → Reads head text x → IsTold e → Refuses head text e → ⊥
  not_both x e a t r = elim (only x (Err e) a r) [ inl is ↦ err_ok e x is | inr is ↦ no_memory e t is ]

  pub one_statement : (x y : Statement) → Reads head text x → Reads head text y → x ≡ y
  one_statement x y a b = value_same x y a b

  pub one_fault : (e f : SqlFault) → IsTold e → IsTold f → Refuses head text e → Refuses head text f → e ≡ f
  one_fault e f t u a b = elim (only_fault e (Err f) t a b) [ inl is ↦ sym (err_same f e is) | inr is ↦ no_memory f u is ]
