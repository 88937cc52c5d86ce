-- Lines one after the other.
use Rattle.std.proofs.Common.{◌≡◌, ℕ, ◌+◌, Bool, true, false, cond, List, ◌∷◌, length, Option, Some, None, Result, Ok, Err, refl, sym, subst, ap, ◌∙◌, ◌⊎◌, inl, inr}
use Rattle.std.specs.Prelude.{MatchBool}
use Rattle.iso_grammar.specs.declared.fault.Checked.{Checked}
use Rattle.iso_grammar.specs.declared.fault.Fault.{Fault}
use Rattle.iso_grammar.specs.declared.token.Token.{Token}
use Rattle.iso_grammar.specs.Faults.{checked, place_of}
use Rattle.iso_grammar.specs.Grammar.{StopsAt}
use Rattle.iso_grammar.specs.Lex.{tokens, is_skipped}
use Rattle.iso_grammar.specs.Lines as text
use Rattle.iso_grammar.proofs.ScriptLaws.{IsExact}
use Rattle.iso_script.specs.declared.event.Event.{Event}
use Rattle.iso_script.specs.declared.reader.Reader.{Reader}
use Rattle.iso_script.specs.declared.fault.LineCause.{LineCause}
use Rattle.iso_script.specs.declared.fault.LineCause.TheVariants as cause
use Rattle.iso_script.specs.declared.fault.ScriptFault.{ScriptFault}
use Rattle.iso_script.specs.declared.fault.ScriptFault.TheVariants as fault
use Rattle.iso_script.specs.Advance.{advance}
use Rattle.iso_script.specs.Rules.{rule}
use Rattle.iso_script.specs.Reading.{cause_of, fits, wrong, IsMisspelt, IsFaulty, ReadsFrom, BadFrom, Refuses, start}
use Rattle.iso_script.specs.Steps.{verdict, LineAnswers}
use Rattle.iso_script.proofs.RuleLaws.{rule_meaning, rule_way, rule_apart, rule_place}

-- what a line comes to is so
pub Judges : Reader → List ℕ → Result Event LineCause → Type 0
Judges s line (Ok e) = fits s line e
Judges s line (Err why) = wrong s line why

abbrev Says : Reader → List ℕ → Checked Event → Type 0
Says s line c = rule s.place s line (tokens line) c

judges_fault : (s : Reader) (line : List ℕ) (e : Event) (o : Option Fault) → Says s line (checked e o) → Judges s line (verdict (checked e o))
unfolding Judges
judges_fault s line e (Some f) l = inr (e, f, l, refl)
judges_fault s line e None l = l

judges : (s : Reader) (line : List ℕ) (c : Checked Event) → Says s line c → Judges s line (verdict c)
judges s line c l = judges_fault s line c.value c.fault l

pub judged : (s : Reader) (line : List ℕ) (ts : List Token) (c : Checked Event) (r : Result Event LineCause) → ts ≡ tokens line → r ≡ verdict c → rule s.place s line ts c → Judges s line r
judged s line ts c r same is l = subst (λ (z : Result Event LineCause). Judges s line z) (sym is) (judges s line c (subst (λ (z : List Token). rule s.place s line z c) same l))

same_ok : (d e : Event) (r : Result Event LineCause) → r ≡ Ok d → r ≡ Ok e → d ≡ e
same_ok d e r p q = cc

same_err : (v w : LineCause) (r : Result Event LineCause) → r ≡ Err v → r ≡ Err w → v ≡ w
same_err v w r p q = cc

pub is_event : (s : Reader) (line : List ℕ) (e : Event) (r : Result Event LineCause) → r ≡ Ok e → Judges s line r → fits s line e
unfolding Judges
is_event s line e (Ok d) same j = subst (λ (z : Event). fits s line z) (same_ok d e (Ok d) refl same) j
is_event s line e (Err why) same j = absurd cc

pub is_wrong : (s : Reader) (line : List ℕ) (why : LineCause) (r : Result Event LineCause) → r ≡ Err why → Judges s line r → wrong s line why
unfolding Judges
is_wrong s line why (Ok d) same j = absurd cc
is_wrong s line why (Err v) same j = subst (λ (z : LineCause). wrong s line z) (same_err v why (Err v) refl same) j

pub is_misspelt : (s : Reader) (line : List ℕ) (ts : List Token) (left place : ℕ) → ts ≡ tokens line → place ≡ place_of ts left (length line) → StopsAt (rule s.place s line) ts left → wrong s line (cause.Syntax place)
is_misspelt s line ts left place same is stop =
    inl (left, subst (λ (z : List Token). StopsAt (rule s.place s line) z left) same stop, ap cause.Syntax (is ∙ ap (λ (z : List Token). place_of z left (length line)) same))

value_is : (c d : Checked Event) → c ≡ d → c.value ≡ d.value
value_is c d e = ap (λ (z : Checked Event). z.value) e

fault_is : (c d : Checked Event) → c ≡ d → c.fault ≡ d.fault
fault_is c d e = ap (λ (z : Checked Event). z.fault) e

no_some : (f : Fault) → None ≡ Some f → ⊥
no_some f e = cc

same_some : (f h : Fault) → Some f ≡ Some h → f ≡ h
same_some f h e = cc

module _ (s : Reader) (line : List ℕ) where
  same : (c d : Checked Event) → Says s line c → Says s line d → c ≡ d
  same c d a b = rule_meaning s.place s line (tokens line) c d a b

  way : ((e : Event) × fits s line e) ⊎ ((why : LineCause) × wrong s line why)
  unfolding Judges
  way = elim (rule_way s.place s line (tokens line)) [
    | inl w ↦ known (verdict w.0) (judges s line w.0 w.1)
    | inr w ↦ inr (cause.Syntax (place_of (tokens line) w.0 (length line)), inl (w.0, w.1, refl))
  ]
    where
      known : (r : Result Event LineCause) → Judges s line r → ((e : Event) × fits s line e) ⊎ ((why : LineCause) × wrong s line why)
      known (Ok e) j = inl (e, j)
      known (Err why) j = inr (why, j)

  apart : (e : Event) (why : LineCause) → fits s line e → wrong s line why → ⊥
  apart e why f w = elim w [
    | inl m ↦ rule_apart s.place s line (tokens line) (checked e None) m.0 f m.1
    | inr m ↦ no_some m.1 (fault_is (checked e None) (checked m.0 (Some m.1)) (same (checked e None) (checked m.0 (Some m.1)) f m.2))
  ]

  misspelt_once : (a b : LineCause) → IsMisspelt s line a → wrong s line b → a ≡ b
  misspelt_once a b m w = elim w [
    | inl n ↦ m.2 ∙ ap (λ k. cause.Syntax (place_of (tokens line) k (length line))) (rule_place s.place s line (tokens line) m.0 n.0 m.1 n.1) ∙ sym n.2
    | inr n ↦ absurd (rule_apart s.place s line (tokens line) (checked n.0 (Some n.1)) m.0 n.2 m.1)
  ]

  faulty_once : (a b : LineCause) → IsFaulty s line a → wrong s line b → a ≡ b
  faulty_once a b m w = elim w [
    | inl n ↦ sym (misspelt_once b a n (inr m))
    | inr n ↦
        m.3 ∙ ap cause_of (same_some m.1 n.1 (fault_is (checked m.0 (Some m.1)) (checked n.0 (Some n.1))
        (same (checked m.0 (Some m.1)) (checked n.0 (Some n.1)) m.2 n.2))) ∙ sym n.3
  ]

  once : (a b : LineCause) → wrong s line a → wrong s line b → a ≡ b
  once a b v w = elim v [
    | inl m ↦ misspelt_once a b m w
    | inr m ↦ faulty_once a b m w
  ]

pub line-exact : (s : Reader) (line : List ℕ) → IsExact (fits s line) (wrong s line)
line-exact s line = record {
  way = way s line;
  event = λ d e a b. value_is (checked d None) (checked e None) (same s line (checked d None) (checked e None) a b);
  fault = once s line;
  apart = apart s line;
}

-- a line is taken
pub step_reads : (s t : Reader) (n : ℕ) (line : List ℕ) (rest : List (List ℕ)) (end : Reader) → LineAnswers s line n (Ok tt) t → ReadsFrom t (n + 1) rest end → ReadsFrom s n (line ∷ rest) end
step_reads s t n line rest end a r = go (is_skipped line) a
  where
    go : (v : Bool) → MatchBool v (t ≡ s) ((e : Event) × fits s line e × (t ≡ advance s n e)) → MatchBool v (ReadsFrom s (n + 1) rest end) ((e : Event) × fits s line e × ReadsFrom (advance s n e) (n + 1) rest end)
    go true a = subst (λ (z : Reader). ReadsFrom z (n + 1) rest end) a r
    go false a = (a.0, a.1, subst (λ (z : Reader). ReadsFrom z (n + 1) rest end) a.2 r)

pub step_bad : (s t : Reader) (n : ℕ) (line : List ℕ) (rest : List (List ℕ)) (bad : ℕ) (why : LineCause) → LineAnswers s line n (Ok tt) t → BadFrom t (n + 1) rest bad why → BadFrom s n (line ∷ rest) bad why
step_bad s t n line rest bad why a r = go (is_skipped line) a
  where
    go : (v : Bool) → MatchBool v (t ≡ s) ((e : Event) × fits s line e × (t ≡ advance s n e))
        → MatchBool v (BadFrom s (n + 1) rest bad why) (((bad ≡ n) × wrong s line why) ⊎ ((e : Event) × fits s line e × BadFrom (advance s n e) (n + 1) rest bad why))
    go true a = subst (λ (z : Reader). BadFrom z (n + 1) rest bad why) a r
    go false a = inr (a.0, a.1, subst (λ (z : Reader). BadFrom z (n + 1) rest bad why) a.2 r)

pick : (v : Bool) (P Q : Type 0) → v ≡ false → Q → MatchBool v P Q
pick true P Q e q = absurd cc
pick false P Q e q = q

-- a line is refused
pub refuse_here : (s t : Reader) (n : ℕ) (line : List ℕ) (rest : List (List ℕ)) (bytes : List ℕ) (e : ScriptFault) → LineAnswers s line n (Err e) t
    → ((m : ℕ) (why : LineCause) → BadFrom s n (line ∷ rest) m why → BadFrom start 1 (text.lines bytes) m why) → Refuses bytes e
refuse_here s t n line rest bytes fault.Memory a so_far = tt
refuse_here s t n line rest bytes (fault.BadLine m why) a so_far = so_far m why (pick (is_skipped line) (BadFrom s (n + 1) rest m why) _ a.0 (inl (a.1, a.2)))
