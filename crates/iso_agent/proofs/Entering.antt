-- An agent between two turns, at the history that its pass is given, and what its own entries add to it.
use Rattle.std.proofs.Common.{◌≡◌, ◌≢◌, ℕ, ◌+◌, Bool, true, false, cond, eq-eqb, ◌||◌, List, [], ◌∷◌, ◌++◌, refl, sym, ap, ◌∙◌, subst, append-nil, arith, Option, Some, None}
use Rattle.std.proofs.lemmas.Bool.Decides.{nat_tests}
use mathlib.Core.Logic.{dite}
use native.Mathlib.Decide.{ℕ_discrete}
use Rattle.iso_agent.proofs.Rested.{rested-on, settled-rested}
use Rattle.iso_agent.specs.Fits.{Fits, HasSettled, IsRested, is_settled}
use Rattle.iso_agent.specs.Turns.{HasTurned}
use Rattle.iso_agent.specs.declared.agent.Kept.{Kept}
use Rattle.iso_agent.specs.declared.agent.Turned.{Turned}
use Rattle.iso_agent.specs.declared.agent.Turned.TheVariants.{Ended, Ran, Rests}
use Rattle.iso_conduct.specs.Conduct.{AreOthers, Conduct, is_by}
use Rattle.iso_conduct.specs.Points.{Point}
use Rattle.iso_history.specs.Legal.{Ground}
use Rattle.iso_history.specs.Makers.{by_agent}
use Rattle.iso_history.specs.Voices.{voice, voice_of}
use Rattle.iso_history.specs.declared.entry.Entry.{Entry}
use Rattle.iso_history.specs.declared.entry.Who.{Who}
use Rattle.iso_history.specs.declared.entry.Who.TheVariants.{Agent, Dispatcher}
use Rattle.iso_latch.proofs.Voices.{has_self, not_both}
use Rattle.iso_latch.specs.Seen.{Continues, Mine, has, own}
use Rattle.iso_script.specs.declared.script.Script.{Script}
use Rattle.iso_types.specs.declared.head.Head.{Head}
use Rattle.iso_types.specs.declared.value.Conn.{Conn}

-- an author with another voice is another
foreign : (c : Conn) (who : Who) → has (voice who) ((c.0 + 1) ∷ []) ≡ false → is_by c who ≡ false
foreign c Dispatcher e = refl
foreign c (Agent d) e =
    dite (ℕ_discrete (d.0 + 1) (c.0 + 1))
    (λ is. absurd (not_both (ap (λ b. b || false) (eq-eqb (d.0 + 1) (c.0 + 1) is)) e))
    (λ no. let ne : d.0 ≢ c.0 = λ k. no (ap (λ (n : ℕ). n + 1) k) in grind (arith, nat_tests))

-- the first of entries without these voices has none of them, nor have the others
pub first_none : (vs : List ℕ) (e : Entry) (es : List Entry) → own vs (e ∷ es) ≡ [] → (has (voice_of e) vs ≡ false) × (own vs es ≡ [])
first_none vs e es none = pick (has (voice_of e) vs) none
  where
    pick : (b : Bool) → cond b (e ∷ own vs es) (own vs es) ≡ [] → (b ≡ false) × (own vs es ≡ [])
    pick true h = absurd (let h2 : e ∷ own vs es ≡ [] = h in cc)
    pick false h = (refl, h)

-- entries without a connection's voice are others'
pub others_of : (c : Conn) (es : List Entry) → own ((c.0 + 1) ∷ []) es ≡ [] → AreOthers c es
others_of c [] none = tt
others_of c (e ∷ es) none =
    let f = first_none ((c.0 + 1) ∷ []) e es none in
    (foreign c e.who f.0, others_of c es f.1)

-- one head is told twice
abbrev head_or : Head → Option Head → Head
head_or d None = d
head_or d (Some h) = h

pub same_head : (a b : Head) (o : Option Head) → o ≡ Some a → o ≡ Some b → a ≡ b
same_head a b o e f = ap (head_or a) (sym e ∙ f)

-- the history of the state that the latch gives goes on from what the pass has seen, and the agent rests there
pub entered : (script : Script) (head : Head) (c : Conn) (vs : List ℕ) (task : Option Point) (kept : Kept) (seen mid log : List Entry)
    → vs ≡ (c.0 + 1) ∷ [] → mid ≡ log → Continues vs seen mid → head ≡ script.head → Ground head log
    → IsRested script seen c task kept → IsRested script log c task kept
entered script head c vs task kept seen mid log voice is d same g r =
    let own : Continues ((c.0 + 1) ∷ []) seen log = subst (λ (z : List ℕ × List Entry). Continues z.0 seen z.1) (λ i. (voice i, is i)) d in
    let ground : Ground script.head (seen ++ own.0) =
    subst (λ (z : Head × List Entry). Ground z.0 z.1) (λ i. (same i, own.1 i)) g in
    subst (λ (es : List Entry). IsRested script es c task kept) (sym own.1)
    (rested-on script seen own.0 c task kept r ground (others_of c own.0 own.2))

-- the history grew by entries of these voices
abbrev pub Grown : List ℕ → List Entry → List Entry → Type 0
Grown vs old new = (more : List Entry) × (new ≡ old ++ more) × Mine vs more

same_grown : (vs : List ℕ) (old new : List Entry) → new ≡ old → Grown vs old new
same_grown vs old new is = ([], is ∙ sym (append-nil old), tt)

pub turned-grown : (old new : List Entry) (c : Conn) (vs : List ℕ) (t : Turned) → has (c.0 + 1) vs ≡ true → HasTurned old new c t → Grown vs old new
turned-grown old new c vs Ran h r = (by_agent c r.0 ∷ [], r.1, (h, tt))
turned-grown old new c vs Rests h is = same_grown vs old new is
turned-grown old new c vs Ended h is = same_grown vs old new is

-- its own entry, from what its turn has seen on
pub voiced-grown : (old new seen : List Entry) (c : Conn) (vs ws : List ℕ) (t : Turned) → ws ≡ (c.0 + 1) ∷ [] → vs ≡ ws → seen ≡ old
    → HasTurned old new c t → Grown vs seen new
voiced-grown old new seen c vs ws t voice kept is turned =
    let h : has (c.0 + 1) vs ≡ true = ap (has (c.0 + 1)) (kept ∙ voice) ∙ has_self (c.0 + 1) in
    subst (λ (es : List Entry). Grown vs es new) (sym is) (turned-grown old new c vs t h turned)

-- an agent that has settled rests at the history that its step has left
pub worked : (script : Script) (head : Head) (es log : List Entry) (c : Conn) (task after : Option Point) (kept last : Kept)
    → log ≡ es → head ≡ script.head → Fits head script.lines es c task kept → Conduct head script.lines es c
    → HasSettled task kept after last → is_settled last ≡ true → IsRested script log c after last
worked script head es log c task after kept last is same fits conduct settled done =
    subst (λ (l : List Entry). IsRested script l c after last) (sym is)
    (settled-rested script es c task after kept last (subst (λ (h : Head). Fits h script.lines es c task kept) same fits)
    (subst (λ (h : Head). Conduct h script.lines es c) same conduct) settled done)
