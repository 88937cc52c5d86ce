-- The agents of a run are between two turns: before the first entry, and after each turn.
use Rattle.std.proofs.Common.{◌≡◌, ◌≢◌, ℕ, ◌<◌, Bool, true, false, List, [], ◌∷◌, ◌++◌, length, ne_eqb, refl, sym, ap, ◌∙◌, subst, arith, Option, None, get_or-set_same, get_or-set_other}
use Rattle.std.proofs.Math.ListN.{length-set}
use Rattle.std.specs.Prelude.{slice_index_or, slice_set}
use Rattle.std.proofs.lemmas.List.{get_or_read}
use mathlib.Core.Logic.{dite}
use native.Mathlib.Decide.{ℕ_discrete}
use Rattle.iso_agent.proofs.Rested.{rested-on, settled-rested}
use Rattle.iso_agent.specs.Fits.{Fits, HasSettled, IsRested, is_settled}
use Rattle.iso_agent.specs.Turns.{HasTurned, is_ran}
use Rattle.iso_agent.specs.declared.agent.Agent.{Agent}
use Rattle.iso_agent.specs.declared.agent.Kept.{Kept}
use Rattle.iso_agent.specs.declared.agent.Kept.TheVariants.{Nothing}
use Rattle.iso_agent.specs.declared.agent.Turned.{Turned}
use Rattle.iso_agent.specs.declared.agent.Turned.TheVariants.{Ended, Ran, Rests}
use Rattle.iso_conduct.specs.Conduct.{Conduct, ConductFrom, is_by, point, point_from}
use Rattle.iso_conduct.specs.Points.{Point}
use Rattle.iso_history.specs.After.{world}
use Rattle.iso_history.specs.Legal.{Ground}
use Rattle.iso_history.specs.Makers.{by_agent}
use Rattle.iso_history.specs.Quiet.{is_able}
use Rattle.iso_history.specs.declared.entry.Act.{Act}
use Rattle.iso_history.specs.declared.entry.Entry.{Entry}
use Rattle.iso_history.specs.declared.entry.Who.{Who}
use Rattle.iso_history.specs.declared.entry.Who.TheVariants.{Dispatcher}
use Rattle.iso_script.specs.declared.script.Line.{Line}
use Rattle.iso_script.specs.declared.script.Script.{Script}
use Rattle.iso_types.specs.declared.head.Head.{Head}
use Rattle.iso_types.specs.declared.value.Conn.{Conn}
use Rattle.iso_serial.specs.Rounds.{HasMade, HasTried, agent, could_act}
use Rattle.iso_serial.specs.UnderWay.{AreNew, AreRested, agent_at}

-- ---- one agent

-- another's entry leaves it so
rested-other : (script : Script) (old new : List Entry) (c : Conn) (task : Option Point) (kept : Kept) (who : Who) (a : Act) → is_by c who ≡ false
    → new ≡ old ++ (record { who = who; act = a }) ∷ [] → Ground script.head new → IsRested script old c task kept
    → IsRested script new c task kept
rested-other script old new c task kept who a other is g r =
    let e : Entry = record { who = who; act = a } in
    subst (λ (es : List Entry). IsRested script es c task kept) (sym is)
    (rested-on script old (e ∷ []) c task kept r (subst (Ground script.head) is g) (other, tt))

-- and so does another's turn
rested-turned : (script : Script) (old new : List Entry) (c d : Conn) (task : Option Point) (kept : Kept) (t : Turned) → d.0 ≢ c.0
    → HasTurned old new d t → Ground script.head new → IsRested script old c task kept → IsRested script new c task kept
rested-turned script old new c d task kept Ran apart h g r =
    rested-other script old new c task kept (by_agent d h.0).who h.0 (ne_eqb d.0 c.0 apart) h.1 g r
rested-turned script old new c d task kept Rests apart h g r = subst (λ (es : List Entry). IsRested script es c task kept) (sym h) r
rested-turned script old new c d task kept Ended apart h g r = subst (λ (es : List Entry). IsRested script es c task kept) (sym h) r

-- before the first entry
rested-new : (script : Script) (c : Conn) (task : Option Point) (kept : Kept) → task ≡ None → kept ≡ Nothing → IsRested script [] c task kept
unfolding point point_from Conduct ConductFrom
rested-new script c task kept t k =
    rw (t, k)
    (record { fits = record { reaches = refl; runs = λ h. absurd (cc) }; settled = refl; conduct = tt })

-- whether it made an entry, by what its turn came to
pub tried-turned : (script : Script) (given : Head) (old new : List Entry) (at : ℕ) (c : Conn) (t : Turned) (b : Bool) → given ≡ script.head
    → c.0 ≡ at → HasTurned old new c t → is_ran t ≡ is_able (world given old) c → b ≡ is_ran t → HasTried script old new (agent at) b
tried-turned script given old new at c t b same here h able is =
    let P : ℕ → Type 0 = λ k. HasTried script old new (agent k) (is_ran t) in
    subst (HasTried script old new (agent at)) (sym is)
    (subst P here (go t h (subst (λ (z : Head). is_ran t ≡ is_able (world z old) c) same able)))
  where
    go : (t : Turned) → HasTurned old new c t → is_ran t ≡ is_able (world script.head old) c → HasTried script old new (agent c.0) (is_ran t)
    go Ran h able = (record { act = h.0; history = h.1; leads = tt }, sym able)
    go Rests h able = (h, sym able)
    go Ended h able = (h, sym able)

-- ---- all agents

pub new-rested : (script : Script) (es : List Entry) (agents : List Agent) → es ≡ [] → AreNew agents → length agents ≡ length script.head.conns
    → AreRested script es agents
new-rested script es agents none new count = record {
  count = count;
  conns = new.conns;
  rested = λ i lt.
      let a = agent_at agents i in
      subst (λ (fs : List Entry). IsRested script fs a.conn a.task a.kept) (sym none)
      (rested-new script a.conn a.task a.kept (new.tasks i lt) (new.kept i lt));
}

-- after an entry of the dispatcher
pub led-rested : (script : Script) (old new : List Entry) (agents : List Agent) → HasMade script old new Dispatcher
    → Ground script.head new → AreRested script old agents → AreRested script new agents
led-rested script old new agents m g r = record {
  count = r.count;
  conns = r.conns;
  rested = λ i lt.
      let a = agent_at agents i in
      rested-other script old new a.conn a.task a.kept Dispatcher m.act refl m.history g (r.rested i lt);
}

-- after a turn of the agent at this place
pub turned-rested : (script : Script) (old new : List Entry) (agents : List Agent) (at : ℕ) (b : Agent) (t : Turned) → at < length agents
    → AreRested script old agents → HasTurned old new (agent_at agents at).conn t → Ground script.head new
    → b.conn ≡ (agent_at agents at).conn → IsRested script new b.conn b.task b.kept → AreRested script new (slice_set agents at b)
turned-rested script old new agents at b t lt r turned g conn rested = record {
  count = length-set agents at b ∙ r.count;
  conns = λ i low.
      let low2 : i < length agents = subst (λ (n : ℕ). i < n) (length-set agents at b) low in
      dite (ℕ_discrete i at)
      (λ is. rw (the-same i is) (ap (λ (c : Conn). c.0) conn ∙ (r.conns at lt ∙ sym is)))
      (λ differs. rw (another i differs) (r.conns i low2));
  rested = λ i low.
      let low2 : i < length agents = subst (λ (n : ℕ). i < n) (length-set agents at b) low in
      dite (ℕ_discrete i at)
      (λ is. rw (the-same i is) rested)
      (λ differs. let a = agent_at agents i in
      let apart : (agent_at agents at).conn.0 ≢ a.conn.0 = λ same. differs (sym (r.conns i low2) ∙ (sym same ∙ r.conns at lt)) in
      rw (another i differs) (rested-turned script old new a.conn (agent_at agents at).conn a.task a.kept t apart turned g (r.rested i low2)));
}
  where
    the-same : (i : ℕ) → i ≡ at → agent_at (slice_set agents at b) i ≡ b
    the-same i is = ap (agent_at (slice_set agents at b)) is ∙ get_or-set_same agents at b _ lt

    another : (i : ℕ) → i ≢ at → agent_at (slice_set agents at b) i ≡ agent_at agents i
    another i differs = get_or-set_other agents at i b _ differs

-- ---- the agent at a place

pub record IsAt (script : Script) (es : List Entry) (at : ℕ) (a : Agent) : Type 0 where
  pub place : a.conn.0 ≡ at
  pub within : a.conn.0 < length script.head.conns
  pub rested : IsRested script es a.conn a.task a.kept

the-agent : (agents : List Agent) (at : ℕ) (a : Agent) → at < length agents → a ≡ slice_index_or agents at a → a ≡ agent_at agents at
the-agent agents at a lt is = get_or_read agents at a lt is (record { conn = record { 0 = 0 }; task = None; kept = Nothing })

pub is-at : (script : Script) (es : List Entry) (agents : List Agent) (at : ℕ) (a : Agent) → at < length agents → a ≡ slice_index_or agents at a
    → AreRested script es agents → IsAt script es at a
is-at script es agents at a lt is r = subst (IsAt script es at) (sym (the-agent agents at a lt is)) (record {
  place = r.conns at lt;
  within = subst (λ (n : ℕ). (agent_at agents at).conn.0 < n) r.count (subst (λ (n : ℕ). n < length agents) (sym (r.conns at lt)) lt);
  rested = r.rested at lt;
})

-- all agents once the one at this place has had its turn, and has done its work
pub worked-rested : (script : Script) (old new : List Entry) (agents : List Agent) (at : ℕ) (a b : Agent) (t : Turned) (task : Option Point)
    (kept : Kept) (head : Head) → at < length agents → a ≡ slice_index_or agents at a → AreRested script old agents → HasTurned old new a.conn t
    → head ≡ script.head → Ground head new → Conduct head script.lines new a.conn → Fits head script.lines new a.conn task kept
    → HasSettled task kept b.task b.kept → is_settled b.kept ≡ true → b.conn ≡ a.conn → AreRested script new (slice_set agents at b)
worked-rested script old new agents at a b t task kept head lt is r turned same g conduct fits settled done conn =
    let ground : Ground script.head new = subst (λ (h : Head). Ground h new) same g in
    let rested : IsRested script new a.conn b.task b.kept =
    settled-rested script new a.conn task b.task kept b.kept (subst (λ (h : Head). Fits h script.lines new a.conn task kept) same fits)
    (subst (λ (h : Head). Conduct h script.lines new a.conn) same conduct) settled done in
    let here : a ≡ agent_at agents at = the-agent agents at a lt is in
    turned-rested script old new agents at b t lt r (subst (λ (z : Agent). HasTurned old new z.conn t) here turned) ground
    (conn ∙ ap (λ (z : Agent). z.conn) here) (subst (λ (d : Conn). IsRested script new d b.task b.kept) (sym conn) rested)
