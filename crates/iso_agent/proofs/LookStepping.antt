-- What is kept of a look's answer is what its statement hears of the entry.
use Rattle.std.proofs.Common.{◌≡◌, ◌<◌, Bool, true, false, ◌&&◌, List, [], ◌∷◌, ◌++◌, refl, sym, ap, ◌∙◌, subst, if◌then◌else◌}
use Rattle.std.proofs.lemmas.Bool.{ltb-true}
use Rattle.std.specs.Prelude.{nat_lt}
use Rattle.iso_agent.proofs.Pinned.{pinned-unfresh}
use Rattle.iso_agent.proofs.Unfresh.{fresh-told}
use Rattle.iso_agent.proofs.Stepping.{goes, limit-ends, limit-kept, lock-pins, waits-now}
use Rattle.iso_agent.specs.Fits.{Tells}
use Rattle.iso_agent.specs.Steps.{HasPin, HasStepped, kept_of_lock, kept_of_look, leaves_fresh}
use Rattle.iso_agent.specs.declared.agent.Kept.{Kept}
use Rattle.iso_agent.specs.declared.stepped.Stepped.TheVariants.{Goes}
use Rattle.iso_conduct.specs.Conduct.{ends, heard}
use Rattle.iso_conduct.specs.declared.moves.Told.{Told}
use Rattle.iso_history.proofs.Snoc.{world-snoc}
use Rattle.iso_history.specs.After.{after, world}
use Rattle.iso_history.specs.Facts.{IsSound}
use Rattle.iso_history.specs.Legal.{is_fresh_on}
use Rattle.iso_history.specs.Looks.{look, may_look, shown}
use Rattle.iso_history.specs.Makers.{by_agent}
use Rattle.iso_history.specs.Outcomes.{at_limit, look_act, look_by}
use Rattle.iso_history.specs.Phases.{is_phase, phase}
use Rattle.iso_history.specs.Requests.{Outcome}
use Rattle.iso_history.specs.Requests.Outcome.{Gives, Limit}
use Rattle.iso_history.specs.Versions.{slots}
use Rattle.iso_history.specs.World.{World}
use Rattle.iso_history.specs.declared.entry.Act.{Act}
use Rattle.iso_history.specs.declared.entry.Act.TheVariants.{Look, ScanEnd}
use Rattle.iso_history.specs.declared.entry.Entry.{Entry}
use Rattle.iso_history.specs.declared.entry.Got.{Got}
use Rattle.iso_history.specs.declared.entry.Want.{Want}
use Rattle.iso_locks.specs.Answers.{answer_of}
use Rattle.iso_locks.specs.declared.locking.Answer.{Answer as LockAnswer}
use Rattle.iso_reads.proofs.Beside.{limit-comes}
use Rattle.iso_reads.specs.Answers.{Shows, answer_at, answer_by, comes_at_limit, is_beside, limited, pin_of, seen}
use Rattle.iso_reads.specs.declared.outcomes.Looked.{Looked}
use Rattle.iso_reads.specs.declared.outcomes.Looked.TheVariants.{EndOfTable, Pinned, Shown}
use Rattle.iso_state.specs.Stands.{Content, is_claimed}
use Rattle.iso_types.specs.declared.desk.Phase.{Phase}
use Rattle.iso_types.specs.declared.desk.Phase.TheVariants.{Running}
use Rattle.iso_types.specs.declared.head.Head.{Head}
use Rattle.iso_types.specs.declared.value.Conn.{Conn}
use Rattle.iso_types.specs.declared.value.Name.TheVariants.{Row}
use Rattle.iso_types.specs.declared.value.Rid.{Rid}
use Rattle.iso_types.specs.declared.value.TableId.{TableId}

-- at the limit a look is answered as a lock
limited-look : (x : LockAnswer) (fresh b : Bool) → comes_at_limit x ≡ true → kept_of_lock x b ≡ kept_of_look (limited x) fresh b
limited-look LockAnswer.Done fresh b e = absurd (cc)
limited-look LockAnswer.Queued fresh b e = absurd (cc)
limited-look LockAnswer.TimedOut fresh b e = refl
limited-look (LockAnswer.Escalates t) fresh b e = refl
limited-look (LockAnswer.Refused code) fresh b e = refl

-- what is kept tells what is heard, and can be rebuilt
abbrev Keeps : Kept → List Told → Type 0
Keeps kept ts = Tells kept ts × HasPin kept

module _ (p : Content) (c : Conn) (t : TableId) (r : Rid) (want : Want) (s : IsSound p.head (world p.head p.history))
    (runs : phase (world p.head p.history) c ≡ Running) where
  abbrev head_of : Head
  head_of = p.head

  abbrev w : World
  w = world p.head p.history

  abbrev later : Act → World
  later a = after p.head (world p.head p.history) (by_agent c a)

  -- the answer tells of a Fresh hold on the row
  abbrev told_fresh : Act → Bool
  told_fresh a = leaves_fresh want (is_claimed (w.last c)) && is_fresh_on (later a) c (Row t r)

  abbrev heard_of : Act → List Told
  heard_of a = heard (world p.head p.history) (after p.head (world p.head p.history) (by_agent c a)) c a

  -- a granted look
  granted-kept : may_look p.head w c t r want ≡ true → look p.head w c t r want ≡ Gives Got.Granted → (looked : Looked) → looked ≡ seen p c t r want
      → Shows looked (shown w c t r want) → (fresh b : Bool) → fresh ≡ is_fresh_on (later (Look t r want Got.Granted)) c (Row t r)
      → Keeps (kept_of_look looked fresh b) (heard_of (Look t r want Got.Granted))
  granted-kept may granted looked is shows fresh b f = go (is_beside w c t r want) refl is
    where
      go : (x : Bool) → is_beside w c t r want ≡ x → looked ≡ (if x then Pinned (pin_of p t r) else Shown (shown w c t r want))
          → Keeps (kept_of_look looked fresh b) (heard_of (Look t r want Got.Granted))
      go true e q = pinned (pin_of p t r) (subst (λ y. Shows y (shown w c t r want)) q shows) q
        where
          pinned : (past : _) → Shows (Pinned past) (shown w c t r want) → looked ≡ Pinned past → Keeps (kept_of_look looked fresh b) (heard_of (Look t r want Got.Granted))
          pinned past has k = subst (λ y. Keeps (kept_of_look y fresh b) (heard_of (Look t r want Got.Granted))) (sym k)
              ((shown w c t r want, has.1, ap (λ (x : Bool). Told.Shown (shown w c t r want) x ∷ []) (pinned-unfresh p.head w s c t r want may granted e)), has.0)
      go false e q = subst (λ y. Keeps (kept_of_look y fresh b) (heard_of (Look t r want Got.Granted))) (sym q)
          (ap (λ (x : Bool). Told.Shown (shown w c t r want) x ∷ []) (sym f), tt)

  limit-look : (looked : Looked) → looked ≡ limited (answer_of (at_limit p.head w c)) → (fresh b : Bool)
      → b ≡ is_phase (phase (later (at_limit p.head w c)) c) Phase.Waiting → Keeps (kept_of_look looked fresh b) (heard_of (at_limit p.head w c))
  limit-look looked is fresh b e =
      subst (λ y. Keeps (kept_of_look y fresh b) (heard_of (at_limit p.head w c))) (sym is)
      (subst (λ y. Keeps y (heard_of (at_limit p.head w c))) (limited-look (answer_of (at_limit p.head w c)) fresh b (limit-comes p.head w c))
      (limit-kept p.head w c runs b e, lock-pins p.head w c runs (answer_of (at_limit p.head w c)) b))

  by-outcome : may_look p.head w c t r want ≡ true → (o : Outcome) → look p.head w c t r want ≡ o → (looked : Looked) → looked ≡ answer_by p c t r want o
      → Shows looked (shown w c t r want) → (fresh b : Bool) → fresh ≡ told_fresh (look_by p.head w c t r want o)
      → b ≡ is_phase (phase (later (look_by p.head w c t r want o)) c) Phase.Waiting
      → Keeps (kept_of_look looked fresh b) (heard_of (look_by p.head w c t r want o)) × (ends (look_by p.head w c t r want o) ≡ false)
  by-outcome may (Gives Got.Granted) k looked is shows fresh b f e = (granted-kept may k looked is shows fresh b (fresh-told p.head w c t r want fresh f), refl)
  by-outcome may (Gives (Got.Queued m)) k looked is shows fresh b f e =
      (subst (λ y. Keeps (kept_of_look y fresh b) (heard_of (Look t r want (Got.Queued m)))) (sym is) (refl, tt), refl)
  by-outcome may (Gives Got.TimedOut) k looked is shows fresh b f e =
      (subst (λ y. Keeps (kept_of_look y fresh b) (heard_of (Look t r want Got.TimedOut))) (sym is) (refl, tt), refl)
  by-outcome may Limit k looked is shows fresh b f e = (limit-look looked is fresh b e, limit-ends p.head w c runs)

  by-slot : (x : Bool) → nat_lt r.0 (slots w t) ≡ x → (r.0 < slots w t → may_look p.head w c t r want ≡ true) → (looked : Looked)
      → looked ≡ (if x then answer_by p c t r want (look p.head w c t r want) else EndOfTable) → Shows looked (shown w c t r want) → (fresh b : Bool)
      → fresh ≡ told_fresh (if x then look_by p.head w c t r want (look p.head w c t r want) else ScanEnd t (slots w t))
      → b ≡ is_phase (phase (later (if x then look_by p.head w c t r want (look p.head w c t r want) else ScanEnd t (slots w t))) c) Phase.Waiting
      → Keeps (kept_of_look looked fresh b) (heard_of (if x then look_by p.head w c t r want (look p.head w c t r want) else ScanEnd t (slots w t)))
      × (ends (if x then look_by p.head w c t r want (look p.head w c t r want) else ScanEnd t (slots w t)) ≡ false)
  by-slot true there may looked is shows fresh b f e =
      by-outcome (may (ltb-true r.0 (slots w t) there)) (look p.head w c t r want) refl looked is shows fresh b f e
  by-slot false there may looked is shows fresh b f e = (subst (λ y. Keeps (kept_of_look y fresh b) (heard_of (ScanEnd t (slots w t)))) (sym is) (refl, tt), refl)

  -- whether it has a Fresh hold on the row now, told of the new parts
  fresh-now : (now : Head) (new : List Entry) (a : Act) (f : Bool) → now ≡ p.head → new ≡ p.history ++ by_agent c a ∷ []
      → f ≡ (leaves_fresh want (is_claimed (w.last c)) && is_fresh_on (world now new) c (Row t r)) → f ≡ told_fresh a
  fresh-now now new a f same is e =
      e ∙ ap (λ h. leaves_fresh want (is_claimed (w.last c)) && is_fresh_on (world h new) c (Row t r)) same
      ∙ ap (λ x. leaves_fresh want (is_claimed (w.last c)) && is_fresh_on x c (Row t r)) (ap (world p.head) is ∙ world-snoc p.head p.history (by_agent c a))

  -- the step of a look
  pub look-stepped : (now : Head) (new : List Entry) (looked : Looked) (fresh b : Bool) → (r.0 < slots w t → may_look p.head w c t r want ≡ true)
      → now ≡ p.head → new ≡ p.history ++ by_agent c (look_act p.head w c t r want) ∷ [] → looked ≡ answer_at p c t r want → Shows looked (shown w c t r want)
      → fresh ≡ (leaves_fresh want (is_claimed (w.last c)) && is_fresh_on (world now new) c (Row t r)) → b ≡ is_phase (phase (world now new) c) Phase.Waiting
      → HasStepped p.head p.history new c (look_act p.head w c t r want) (Goes (kept_of_look looked fresh b))
  look-stepped now new looked fresh b may same is answer shows f e =
      let k = by-slot (nat_lt r.0 (slots w t)) refl may looked answer shows fresh b (fresh-now now new (look_act p.head w c t r want) fresh same is f)
      (waits-now p.head now p.history new c (look_act p.head w c t r want) b same is e) in
      goes p.head p.history new c (look_act p.head w c t r want) (kept_of_look looked fresh b) is k.1 k.0.0 k.0.1
