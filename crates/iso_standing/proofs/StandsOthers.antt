-- What others do leaves it so that what stands in front goes with the world.
use Rattle.std.proofs.Common.{◌≡◌, ◌⊎◌, inl, inr, ℕ, Bool, true, false, List, refl, sym, ◌∙◌, ap, subst, Option, Some, None, option_map, is_some, if◌then◌else◌}
use Rattle.std.specs.Option.{option_map_or}
use Rattle.std.specs.Prelude.{is_none}
use Rattle.iso_conduct.proofs.Open.{eq-is, eq-turned}
use Rattle.iso_conduct.proofs.PairedAlong.{IsTied, next_at}
use Rattle.iso_conduct.proofs.Queues.{is_claim_next}
use Rattle.iso_conduct.specs.Points.{Point}
use Rattle.iso_history.proofs.facts.Others.{hold_on-others}
use Rattle.iso_history.proofs.limits.Others.{IsSameAt, others-agent}
use Rattle.iso_history.proofs.limits.Victims.{HasVictim, has_victim}
use Rattle.iso_history.specs.After.{after}
use Rattle.iso_history.specs.Facts.{WaitersOpen}
use Rattle.iso_history.specs.Legal.{ByDispatcher, is_fresh_on}
use Rattle.iso_history.specs.Makers.{by_agent, by_dispatcher}
use Rattle.iso_history.specs.Phases.{closing_by, doom_by, doom_of_dispatcher, is_phase, phase, phase_of}
use Rattle.iso_history.specs.Phases.Doom.{Dooms, Spares}
use Rattle.iso_history.specs.World.{World}
use Rattle.iso_history.specs.declared.entry.Act.{Act}
use Rattle.iso_history.specs.declared.entry.Act.TheVariants.{Close, Expire, Victim}
use Rattle.iso_history.specs.declared.entry.Who.TheVariants.{Dispatcher}
use Rattle.iso_modes.specs.Terms.{is_fresh}
use Rattle.iso_queue.specs.Locks.{Hold}
use Rattle.iso_queue.specs.Queues.{is_waiting, wait_of}
use Rattle.iso_standing.proofs.Own.{FateIs, awaits_table}
use Rattle.iso_standing.proofs.Stands.{StandsAt, left_at, some-is}
use Rattle.iso_types.specs.Ids.{conn_eq}
use Rattle.iso_types.specs.declared.desk.Phase.{Phase}
use Rattle.iso_types.specs.declared.head.Head.{Head}
use Rattle.iso_types.specs.declared.value.Conn.{Conn}
use Rattle.iso_types.specs.declared.value.Name.{Name}
use Rattle.iso_types.specs.declared.value.Name.TheVariants.{Row}

-- who is in the phase Waiting waits
waits-by : (e k d t s : Bool) → is_phase (phase_of e k d t s) Phase.Waiting ≡ true → t ≡ true
waits-by true k d t s h = absurd (cc)
waits-by false true d t s h = absurd (cc)
waits-by false false true t s h = absurd (cc)
waits-by false false false true s h = refl
waits-by false false false false true h = absurd (cc)
waits-by false false false false false h = absurd (cc)

-- a Claim comes next at the point
pub next-left : (o : Option Point) → is_claim_next (left_at o) ≡ next_at o
next-left None = refl
next-left (Some p) = refl

module _ (head : Head) (w : World) (c : Conn) where
  -- a doom that comes from the dispatcher, to a connection that waits
  abbrev IsDoomed : Act → Type 0
  IsDoomed a = (r : ℕ) × (doom_by w.doom (doom_of_dispatcher w a) c ≡ Some r) × (is_waiting w.waits c ≡ true)

  abbrev Fares : Act → Type 0
  Fares a = (doom_by w.doom (doom_of_dispatcher w a) c ≡ w.doom c) ⊎ IsDoomed a

  expire-fares : (line : ℕ) (d : Conn) → is_phase (phase w d) Phase.Waiting ≡ true → Fares (Expire line d true)
  expire-fares line d is = go (conn_eq c d) refl
    where
      waits : is_waiting w.waits d ≡ true
      waits = waits-by (w.ended d) (w.closing d) (is_some (w.doom d)) (is_waiting w.waits d) (is_none (w.line d)) is

      go : (b : Bool) → conn_eq c d ≡ b → Fares (Expire line d true)
      go false k = inl (rw k refl)
      go true k = inr (68, rw k refl, subst (λ x. is_waiting w.waits x ≡ true) (sym (eq-is c d k)) waits)

  -- the doom of the connection after a Victim
  abbrev after_victim : Option Conn → Option ℕ
  after_victim o = doom_by w.doom (option_map_or (λ d. Dooms d 2) o Spares) c

  victim-fares : (cycle : List Conn) → ByDispatcher head w (Victim cycle) → Fares (Victim cycle)
  victim-fares cycle al = go (conn_eq c found.conn) refl
    where
      found : HasVictim head w cycle
      found = has_victim head w cycle al

      go : (b : Bool) → conn_eq c found.conn ≡ b → Fares (Victim cycle)
      go false k = inl (subst (λ o. after_victim o ≡ w.doom c) (sym found.is_victim) (rw k refl))
      go true k = inr (
        2,
        subst (λ o. after_victim o ≡ Some 2) (sym found.is_victim) (rw k refl),
        subst (λ x. is_waiting w.waits x ≡ true) (sym (eq-is c found.conn k)) found.waits,
      )

  -- the dispatcher dooms only who waits
  fares : (a : Act) → ByDispatcher head w a → Fares a
  fares (Victim cycle) al = victim-fares cycle al
  fares (Expire line d true) al = expire-fares line d (sym al.3)
  fares (Expire line d false) al = inl refl
  fares _ al = inl refl

  -- and closes nobody who closed before
  was-closing : (a : Act) → closing_by w.closing Dispatcher a c ≡ false → w.closing c ≡ false
  was-closing (Close d) h = go (conn_eq c d) h
    where
      go : (b : Bool) → (if b then true else w.closing c) ≡ false → w.closing c ≡ false
      go true k = absurd (cc)
      go false k = k
  was-closing _ h = h

  module _ (o : Option Point) (open_waits : WaitersOpen w) (t : IsTied w c o) (s : StandsAt w c o) where
    -- a Claim comes next of who waits
    waits-claim : is_waiting w.waits c ≡ true → is_claim_next (left_at o) ≡ true
    unfolding WaitersOpen
    waits-claim h =
        let x = some-is (wait_of w.waits c) h in
        let fine = open_waits c x.0 x.1 in
        next-left o ∙ (sym (t.waits fine.closing fine.doom) ∙ h)

    pub dispatcher-stands : (a : Act) → ByDispatcher head w a → StandsAt (after head w (by_dispatcher a)) c o
    dispatcher-stands a al = record { collapse = s.collapse; awaited = s.awaited; frees = s.frees; fate = λ k. go (was-closing a k) (fares a al) }
      where
        go : w.closing c ≡ false → Fares a → FateIs (doom_by w.doom (doom_of_dispatcher w a) c) (left_at o)
        go k (inl e) = subst (λ x. FateIs x (left_at o)) (sym e) (s.fate k)
        go k (inr d) = subst (λ x. FateIs x (left_at o)) (sym d.1) (inl (waits-claim d.2))

    pub agent-stands : (k : Conn) (a : Act) → conn_eq k c ≡ false → StandsAt (after head w (by_agent k a)) c o
    agent-stands k a away = record {
      collapse = ap (option_map (λ d. d.0)) due ∙ s.collapse;
      awaited = ap awaits_table last ∙ s.awaited;
      frees = λ u r e. let f = s.frees u r e in (last ∙ f.0, fresh (Row u r) ∙ f.1);
      fate = λ h. subst (λ x. FateIs x (left_at o)) (sym same.doom_same) (s.fate (sym same.closing_same ∙ h));
    }
      where
        v : World
        v = after head w (by_agent k a)

        same : IsSameAt w v c
        same = others-agent head w k a c (eq-turned k c away)

        due : v.due c ≡ w.due c
        due = rw (eq-turned k c away) refl

        last : v.last c ≡ w.last c
        last = rw (eq-turned k c away) refl

        fresh : (n : Name) → is_fresh_on v c n ≡ is_fresh_on w c n
        fresh n = ap (λ (x : Option Hold). option_map_or (λ h. is_fresh h.term) x false) (hold_on-others k c n away head w a)
