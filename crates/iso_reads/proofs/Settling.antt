-- What is rebuilt of what a look pins is the row that was last committed.
use Rattle.std.proofs.Common.{◌≡◌, ◌∙◌, Bool, true, false, refl, ap, sym, subst, if◌then◌else◌}
use Rattle.std.proofs.lemmas.Bool.{and_parts}
use Rattle.std.specs.Prelude.{nat_lt}
use Rattle.iso_history.specs.After.{world}
use Rattle.iso_history.specs.Looks.{look, may_look, shown}
use Rattle.iso_history.specs.Requests.{Outcome}
use Rattle.iso_history.specs.Requests.Outcome.{Gives, Limit}
use Rattle.iso_history.specs.Outcomes.{at_limit}
use Rattle.iso_history.specs.Versions.{committed, slots, versions}
use Rattle.iso_history.specs.declared.entry.Got.{Got}
use Rattle.iso_history.specs.declared.entry.Want.{Want}
use Rattle.iso_modes.specs.declared.Mode.TheVariants.{Is}
use Rattle.iso_queue.specs.Locks.{holds_at_least}
use Rattle.iso_rebuild.specs.declared.past.Past.{Past}
use Rattle.iso_types.specs.declared.value.Conn.{Conn}
use Rattle.iso_types.specs.declared.value.Name.TheVariants.{Table}
use Rattle.iso_types.specs.declared.value.Rid.{Rid}
use Rattle.iso_types.specs.declared.value.TableId.{TableId}
use Rattle.iso_locks.specs.Answers.{answer_of}
use Rattle.iso_locks.specs.declared.locking.Answer.{Answer}
use Rattle.iso_state.proofs.FactsAlong.{sound-of}
use Rattle.iso_state.specs.Stands.{Content, Stands}
use Rattle.iso_reads.proofs.Beside.{pending-beside}
use Rattle.iso_reads.proofs.Current.{only-current}
use Rattle.iso_reads.proofs.SlotReads.{pin-shows}
use Rattle.iso_reads.specs.Answers.{Shows, answer_at, answer_by, is_beside, limited, pin_of}
use Rattle.iso_reads.specs.Settled.{IsSettledBy}
use Rattle.iso_reads.specs.declared.outcomes.Looked.TheVariants.{EndOfTable, Pinned, Shown}

-- at the lock limit nothing is pinned
limit-pins : (a : Answer) (past : Past) → limited a ≡ Pinned past → ⊥
limit-pins (Answer.Escalates t) past e = cc
limit-pins (Answer.Refused code) past e = cc
limit-pins Answer.TimedOut past e = cc
limit-pins Answer.Queued past e = cc
limit-pins Answer.Done past e = cc

module _ (p : Content) (s : Stands p) (c : Conn) (t : TableId) (r : Rid) (want : Want) (past : Past) where
  -- only a look that is granted is answered by a pin
  granted : (o : Outcome) → answer_by p c t r want o ≡ Pinned past → o ≡ Gives Got.Granted
  granted (Gives Got.Granted) e = refl
  granted (Gives (Got.Queued m)) e = absurd (cc)
  granted (Gives Got.TimedOut) e = absurd (cc)
  granted Limit e = absurd (limit-pins (answer_of (at_limit p.head (world p.head p.history) c)) past e)

  pub settled-by : holds_at_least (world p.head p.history).holds c (Table t) Is ≡ true → may_look p.head (world p.head p.history) c t r want ≡ true
      → answer_at p c t r want ≡ Pinned past → IsSettledBy (world p.head p.history) t r want past
  settled-by table may answer =
      let w = world p.head p.history in
      let there : nat_lt r.0 (slots w t) ≡ true = (and_parts (nat_lt r.0 (slots w t)) _ may).0 in
      let by : answer_by p c t r want (look p.head w c t r want) ≡ Pinned past =
      sym (ap (λ (b : Bool). if b then answer_by p c t r want (look p.head w c t r want) else EndOfTable) there) ∙ answer in
      let gives = granted (look p.head w c t r want) by in
      go gives (is_beside w c t r want) refl (sym (ap (answer_by p c t r want) gives) ∙ by)
    where
      go : look p.head (world p.head p.history) c t r want ≡ Gives Got.Granted → (b : Bool) → is_beside (world p.head p.history) c t r want ≡ b
          → (if is_beside (world p.head p.history) c t r want then Pinned (pin_of p t r) else Shown (shown (world p.head p.history) c t r want)) ≡ Pinned past
          → IsSettledBy (world p.head p.history) t r want past
      go gives true beside e =
          let w = world p.head p.history in
          let pinned : Pinned (pin_of p t r) ≡ Pinned past = rw beside at e in
          let same : pin_of p t r ≡ past = cc in
          let shows = subst (λ (z : Past). Shows (Pinned z) (committed (versions w t r))) same (pin-shows p s t r (pending-beside w c t r want beside)) in
          record { current = only-current p.head w c t r want (sound-of s) table may gives beside; chain = shows.0; row = shows.1 }
      go gives false beside e = absurd (let z : Shown (shown (world p.head p.history) c t r want) ≡ Pinned past = rw beside at e in cc)
