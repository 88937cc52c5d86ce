-- The history of a run: it is legal, it grows, and at last it has finished.
use Rattle.std.proofs.Common.{◌≡◌, ℕ, ◌+◌, ◌-◌, ◌<◌, ◌≤◌, true, false, List, [], ◌∷◌, ◌++◌, length, length-append, ap, sym, ◌∙◌, subst, arith}
use Rattle.std.specs.List.{list_any}
use Rattle.std.proofs.lemmas.Bool.{ltb-true}
use Rattle.iso_agent.specs.declared.agent.Agent.{Agent}
use Rattle.iso_conduct.proofs.Progress.{bounded, some-able}
use Rattle.iso_conduct.specs.Conduct.{Conduct}
use Rattle.iso_conduct.specs.Legal.{IsLegal}
use Rattle.iso_conduct.specs.Schedule.{actors}
use Rattle.iso_director.proofs.UntiedAlong.{untied-as}
use Rattle.iso_director.specs.Director.{HasTaken}
use Rattle.iso_director.specs.declared.director.Director.{Director}
use Rattle.iso_ends.proofs.DoubtsKept.{kept-as}
use Rattle.iso_history.specs.After.{world}
use Rattle.iso_history.specs.Legal.{Ground}
use Rattle.iso_history.specs.Stops.{history_limit}
use Rattle.iso_history.specs.declared.entry.Entry.{Entry}
use Rattle.iso_history.specs.declared.entry.Who.{Who}
use Rattle.iso_script.specs.Sound.{IsSound}
use Rattle.iso_script.specs.declared.script.Script.{Script}
use Rattle.iso_types.specs.Head.{is_conn}
use Rattle.iso_types.specs.declared.head.Head.{Head}
use Rattle.iso_types.specs.declared.value.Conn.{Conn}
use Rattle.iso_serial.proofs.Lines.{left-agent, paced-agent}
use Rattle.iso_serial.specs.Rounds.{HasMade, agent, could_act}
use Rattle.iso_serial.specs.UnderWay.{AreRested, agent_at}

-- the agents' entries take no line
pub agent-taken : (script : Script) (old new : List Entry) (c : ℕ) (d : Director) → HasMade script old new (agent c)
    → HasTaken script old d → HasTaken script new d
agent-taken script old new c d m t = record {
  paced = paced-agent script old new c m t.paced;
  left = left-agent script old new c m ∙ t.left;
  kept = kept-as script.head old new _ d.doubts m.history t.kept;
  acyclic = untied-as script.head old new _ d.acyclic m.history t.acyclic;
}

-- what the agents and the dispatcher have kept to, together
pub legal-of : (script : Script) (es : List Entry) (agents : List Agent) (d : Director) → Ground script.head es → AreRested script es agents
    → HasTaken script es d → IsLegal script es
legal-of script es agents d g r t = record {
  ground = g;
  conduct = λ c known.
      let lt : c.0 < length agents = subst (λ (n : ℕ). c.0 < n) (sym r.count) (ltb-true c.0 (length script.head.conns) known) in
      subst (λ (k : ℕ). Conduct script.head script.lines es (record { 0 = k })) (r.conns c.0 lt) (r.rested c.0 lt).conduct;
  paced = t.paced;
}

-- where the history has not finished, some actor of the circle can act
pub goes-on : (script : Script) (head : Head) (es : List Entry) (d : Director) → head ≡ script.head → IsSound script → Ground head es
    → HasTaken script es d → (world head es).pace.finished ≡ false → list_any (could_act script es) (actors script.head) ≡ true
goes-on script head es d same sound g t going =
    some-able script es sound (subst (λ (h : Head). Ground h es) same g) t.paced (subst (λ (h : Head). (world h es).pace.finished ≡ false) same going)

-- each turn comes nearer to the limit
pub nearer : (script : Script) (old new : List Entry) (who : Who) → IsSound script → Ground script.head new
    → HasMade script old new who → history_limit - length new < history_limit - length old
nearer script old new who sound g m =
    let most : length new ≤ history_limit = bounded script new sound g in
    let more : length new ≡ length old + 1 = ap length m.history ∙ length-append old _ in
    omega (arith, most, more)
