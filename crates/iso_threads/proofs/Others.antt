-- Entries of others leave what an author keeps to.
use Rattle.std.proofs.Common.{◌≡◌, ℕ, zero, suc, ◌+◌, true, false, List, [], ◌∷◌, ◌++◌, refl, sym, ap, ◌∙◌, subst, ⊎_elim, ne_eqb, arith}
use mathlib.Core.Logic.{dite}
use native.Mathlib.Decide.{ℕ_discrete}
use Rattle.iso_agent.proofs.Entering.{first_none, others_of}
use Rattle.iso_conduct.proofs.Others.{kept-others}
use Rattle.iso_conduct.specs.Pacing.{Paced, PacedFrom, Paces, lines_after, lines_from, lines_left}
use Rattle.iso_history.specs.After.{after, start}
use Rattle.iso_history.specs.Voices.{voice, voice_of}
use Rattle.iso_history.specs.World.{World}
use Rattle.iso_history.specs.declared.entry.Entry.{Entry}
use Rattle.iso_history.specs.declared.entry.Who.{Who}
use Rattle.iso_history.specs.declared.entry.Who.TheVariants.{Agent, Dispatcher}
use Rattle.iso_latch.proofs.Voices.{continues_fewer, has-append, not_both, or_false, or_true}
use Rattle.iso_latch.specs.Seen.{Continues, has, own}
use Rattle.iso_script.specs.declared.script.Line.{Line}
use Rattle.iso_script.specs.declared.script.Script.{Script}
use Rattle.iso_threads.specs.Kept.{AllKeep, Keeps}
use Rattle.iso_types.specs.declared.head.Head.{Head}

pub only : (x y : ℕ) → has y (x ∷ []) ≡ true → y ≡ x
only x y e = dite (ℕ_discrete y x) (λ is. is) (λ no. absurd (not_both e (or_false _ _ (ne_eqb y x no) refl)))

-- these entries are agents'
abbrev pub AreAgents : List Entry → Type 0
AreAgents [] = Unit {0}
AreAgents (e ∷ es) = (has (voice_of e) (0 ∷ []) ≡ false) × AreAgents es

agents_of : (es : List Entry) → own (0 ∷ []) es ≡ [] → AreAgents es
agents_of [] none = tt
agents_of (e ∷ es) none = let f = first_none (0 ∷ []) e es none in (f.0, agents_of es f.1)

agent_lines : (ls : List Line) (e : Entry) → has (voice_of e) (0 ∷ []) ≡ false → lines_after ls e.who e.act ≡ ls
agent_lines ls e a = go e.who a
  where
    go : (who : Who) → has (voice who) (0 ∷ []) ≡ false → lines_after ls who e.act ≡ ls
    go Dispatcher h = absurd (not_both refl h)
    go (Agent d) h = refl

agent_paces : (head : Head) (w : World) (ls : List Line) (e : Entry) → has (voice_of e) (0 ∷ []) ≡ false → Paces head w ls e.who e.act
agent_paces head w ls e a = go e.who a
  where
    go : (who : Who) → has (voice who) (0 ∷ []) ≡ false → Paces head w ls who e.act
    go Dispatcher h = absurd (not_both refl h)
    go (Agent d) h = tt

lines_from-others : (ls : List Line) (es fs : List Entry) → AreAgents fs → lines_from ls (es ++ fs) ≡ lines_from ls es
unfolding lines_from
lines_from-others ls [] [] a = refl
lines_from-others ls [] (f ∷ fs) a = ap (λ z. lines_from z fs) (agent_lines ls f a.0) ∙ lines_from-others ls [] fs a.1
lines_from-others ls (e ∷ es) fs a = lines_from-others (lines_after ls e.who e.act) es fs a

-- the agents take no line
pub lines-others : (lines : List Line) (es fs : List Entry) → own (0 ∷ []) fs ≡ [] → lines_left lines (es ++ fs) ≡ lines_left lines es
unfolding lines_left
lines-others lines es fs none = lines_from-others lines es fs (agents_of fs none)

PacedFrom-others : (head : Head) (w : World) (ls : List Line) (es fs : List Entry) → AreAgents fs → PacedFrom head w ls es
    → PacedFrom head w ls (es ++ fs)
unfolding PacedFrom
PacedFrom-others head w ls [] [] a g = tt
PacedFrom-others head w ls [] (f ∷ fs) a g = (
  agent_paces head w ls f a.0,
  subst (λ (z : List Line). PacedFrom head (after head w f) z fs) (sym (agent_lines ls f a.0))
      (PacedFrom-others head (after head w f) ls [] fs a.1 tt),
)
PacedFrom-others head w ls (e ∷ es) fs a g = (g.0, PacedFrom-others head (after head w e) (lines_after ls e.who e.act) es fs a g.1)

pub Paced-others : (head : Head) (lines : List Line) (es fs : List Entry) → own (0 ∷ []) fs ≡ [] → Paced head lines es
    → Paced head lines (es ++ fs)
unfolding Paced
Paced-others head lines es fs none g = PacedFrom-others head (start head) lines es fs (agents_of fs none) g

-- what an author keeps to, it keeps to where others go on
pub keeps-others : (script : Script) (x : ℕ) (es fs : List Entry) → own (x ∷ []) fs ≡ [] → Keeps script x es → Keeps script x (es ++ fs)
keeps-others script zero es fs none k = Paced-others script.head script.lines es fs none k
keeps-others script (suc c) es fs none k =
    kept-others script.head script.lines (record { 0 = c }) es fs
    (let is : suc c ≡ c + 1 = omega arith in others_of (record { 0 = c }) fs (subst (λ (v : ℕ). own (v ∷ []) fs ≡ []) is none)) k

-- one voice among those of the pass
pub one_of : (x : ℕ) (vs : List ℕ) (seen log : List Entry) → has x vs ≡ true → Continues vs seen log → Continues (x ∷ []) seen log
one_of x vs seen log h c = continues_fewer vs (x ∷ []) seen log (λ y e. ap (λ z. has z vs) (only x y e) ∙ h) c

pub keeps-on : (script : Script) (x : ℕ) (vs : List ℕ) (seen log : List Entry) → has x vs ≡ true → Continues vs seen log
    → Keeps script x seen → Keeps script x log
keeps-on script x vs seen log h c k =
    let d = one_of x vs seen log h c in
    subst (Keeps script x) (sym d.1) (keeps-others script x seen d.0 d.2 k)

-- all that keep to their parts do so in a history that goes on without them
pub all-on : (script : Script) (vs : List ℕ) (seen log : List Entry) → Continues vs seen log → AllKeep script vs seen → AllKeep script vs log
all-on script vs seen log c k x h = keeps-on script x vs seen log h c (k x h)

-- what two passes saw, met
pub all-meet : (script : Script) (vs ws : List ℕ) (a b log : List Entry) → Continues vs a log → Continues ws b log
    → AllKeep script vs a → AllKeep script ws b → AllKeep script (vs ++ ws) log
all-meet script vs ws a b log c d k l x h =
    ⊎_elim (λ left. all-on script vs a log c k x left) (λ right. all-on script ws b log d l x right)
    (or_true (has x vs) (has x ws) (sym (has-append x vs ws) ∙ h))
