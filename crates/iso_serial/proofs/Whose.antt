-- Whose turn it is, from what was asked: the agents behind the last actor, the dispatcher, and the agents up to that actor.
use Rattle.std.proofs.Common.{◌≡◌, ℕ, suc, ◌+◌, ◌<◌, ◌≤◌, Bool, true, false, List, ◌∷◌, drop, take, find, length, sym, ap, ◌∙◌, subst, arith, Some, None}
use Rattle.std.specs.List.{list_any}
use Rattle.iso_conduct.specs.Schedule.{actors, after_actor}
use Rattle.iso_history.specs.declared.entry.Entry.{Entry}
use Rattle.iso_history.specs.declared.entry.Who.{Who}
use Rattle.iso_history.specs.declared.entry.Who.TheVariants.{Dispatcher}
use Rattle.iso_script.specs.declared.script.Script.{Script}
use Rattle.iso_serial.proofs.Circle.{agents-all, agents-cons, find-here, find-past, found-before, found-behind, found-dispatcher, nobody}
use Rattle.iso_serial.specs.Rounds.{HasAsked, HasMade, HasTried, actor, agent, agents_between, agents_of, could_act}

-- ---- the agents that are asked in their order

module _ (script : Script) (old mid new : List Entry) (from at to : ℕ) (b : Bool) (lt : at < to) (le : to ≤ length script.head.conns)
    (same : mid ≡ old) (tried : HasTried script mid new (agent at) b)
    (passed : find (could_act script old) (agents_between script.head at to) ≡ find (could_act script old) (agents_between script.head from to)) where
  tried-as : (r : Bool) → b ≡ r → HasTried script old new (agent at) r
  tried-as r is = subst (HasTried script old new (agent at)) is (subst (λ (es : List Entry). HasTried script es new (agent at) b) same tried)

  abbrev rest : List Who
  rest = agents_between script.head (suc at) to

  here : find (could_act script old) (agent at ∷ rest) ≡ find (could_act script old) (agents_between script.head from to)
  here = ap (find (could_act script old)) (sym (agents-cons script.head at to lt le)) ∙ passed

  -- it made an entry: it is the first that could act
  pub asked-here : b ≡ true → HasAsked script old new (agents_between script.head from to) (Some at)
  asked-here is =
      let t = tried-as true is in
      (t.0, sym here ∙ find-here (could_act script old) (agent at) rest t.1)

  -- it could not: those behind it are asked
  pub asked-past : b ≡ false → (new ≡ old)
      × (find (could_act script old) (agents_between script.head (at + 1) to) ≡ find (could_act script old) (agents_between script.head from to))
  asked-past is =
      let t = tried-as false is in
      let next : suc at ≡ at + 1 = omega arith in (
        t.0,
        subst (λ (k : ℕ). find (could_act script old) (agents_between script.head k to) ≡ find (could_act script old) (agents_between script.head from to))
            next (sym (find-past (could_act script old) (agent at) rest t.1) ∙ here),
      )

-- ---- the turn

-- an entry by this actor, whose turn it was after the last one
abbrev pub IsTurn : Script → List Entry → List Entry → ℕ → ℕ → Type 0
IsTurn script old new last v = HasMade script old new (actor v) × (find (could_act script old) (after_actor script.head (actor last)) ≡ Some (actor v))

module _ (script : Script) (old : List Entry) (last count : ℕ) (all : count ≡ length script.head.conns) where
  abbrev behind : List Who
  behind = agents_between script.head last count

  abbrev before : List Who
  before = take last (agents_of script.head)

  behind-is : behind ≡ drop last (agents_of script.head)
  behind-is = subst (λ (n : ℕ). agents_between script.head last n ≡ drop last (agents_of script.head)) (sym all) (agents-all script.head last)

  none-behind : find (could_act script old) behind ≡ None → find (could_act script old) (drop last (agents_of script.head)) ≡ None
  none-behind n = ap (find (could_act script old)) (sym behind-is) ∙ n

  by-agent : (new : List Entry) (c : ℕ) → HasMade script old new (agent c)
      → find (could_act script old) (after_actor script.head (actor last)) ≡ Some (agent c) → IsTurn script old new last (c + 1)
  by-agent new c m f = let e : suc c ≡ c + 1 = omega arith in subst (IsTurn script old new last) e (m, f)

  pub turn-behind : (new : List Entry) (c : ℕ) → HasAsked script old new behind (Some c) → IsTurn script old new last (c + 1)
  turn-behind new c a =
      by-agent new c a.0 (found-behind script.head (could_act script old) last (agent c) (ap (find (could_act script old)) (sym behind-is) ∙ a.1))

  module _ (mid : List Entry) (asked : HasAsked script old mid behind None) where
    pub turn-dispatcher : (new : List Entry) → HasTried script mid new Dispatcher true → IsTurn script old new last 0
    turn-dispatcher new t =
        let u : HasTried script old new Dispatcher true = subst (λ (es : List Entry). HasTried script es new Dispatcher true) asked.0 t in
        (u.0, found-dispatcher script.head (could_act script old) last (none-behind asked.1) u.1)

    module _ (next : List Entry) (tried : HasTried script mid next Dispatcher false) where
      tried-old : HasTried script old next Dispatcher false
      tried-old = subst (λ (es : List Entry). HasTried script es next Dispatcher false) asked.0 tried

      pub turn-before : (new : List Entry) (c : ℕ) → HasAsked script next new before (Some c) → IsTurn script old new last (c + 1)
      turn-before new c a =
          let b : HasAsked script old new before (Some c) = subst (λ (es : List Entry). HasAsked script es new before (Some c)) tried-old.0 a in
          by-agent new c b.0 (found-before script.head (could_act script old) last (agent c) (none-behind asked.1) tried-old.1 b.1)

      pub no-turn : (new : List Entry) → HasAsked script next new before None → list_any (could_act script old) (actors script.head) ≡ false
      no-turn new a =
          let b : HasAsked script old new before None = subst (λ (es : List Entry). HasAsked script es new before None) tried-old.0 a in
          nobody script.head (could_act script old) last (none-behind asked.1) tried-old.1 b.1
