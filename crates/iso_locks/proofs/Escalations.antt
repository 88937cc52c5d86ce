-- An escalation's own request is never at a limit: its table is held, and no count passes its limit.
use Rattle.std.proofs.Common.{◌≡◌, ap, Some, None, Option}
use Rattle.std.specs.Option.{option_map, option_map_or}
use Rattle.iso_history.proofs.facts.Shares.{shares-world}
use Rattle.iso_history.proofs.whole.Pressed.{held-gives, prey-held}
use Rattle.iso_history.specs.After.{world}
use Rattle.iso_history.specs.Requests.{Outcome, escalation, request}
use Rattle.iso_history.specs.Requests.Outcome.{Gives, Limit}
use Rattle.iso_history.specs.declared.entry.Got.{Got}
use Rattle.iso_modes.specs.Modes.{escalated}
use Rattle.iso_modes.specs.declared.Mode.{Mode}
use Rattle.iso_modes.specs.declared.Mode.TheVariants.{X}
use Rattle.iso_queue.specs.Limits.{prey}
use Rattle.iso_queue.specs.Locks.{held}
use Rattle.iso_state.proofs.FactsAlong.{sound-of}
use Rattle.iso_state.specs.Stands.{Content, Stands}
use Rattle.iso_types.specs.declared.value.Conn.{Conn}
use Rattle.iso_types.specs.declared.value.Name.TheVariants.{Table}
use Rattle.iso_types.specs.declared.value.TableId.{TableId}

-- the table of an escalation is the prey
prey-of : (o : Option TableId) (f : TableId → Mode) (t : TableId) (m : Mode) → option_map {U = TableId × Mode} (λ t. (t, f t)) o ≡ Some (t, m) → o ≡ Some t
prey-of None f t m e = cc
prey-of (Some u) f t m e = ap Some (ap (λ (p : TableId × Mode). p.0) (some-is e))
  where
    some-is : {a b : TableId × Mode} → Some a ≡ Some b → a ≡ b
    some-is e = cc

never : (o : Outcome) (got : Got) → o ≡ Gives got → o ≡ Limit → ⊥
never o got a b = cc

pub escalations-fit : {p : Content} → Stands p → (c : Conn) (t : TableId) (m : Mode) → escalation p.head (world p.head p.history) c ≡ Some (t, m)
    → request p.head (world p.head p.history) c (Table t) m ≡ Limit → ⊥
escalations-fit {p} s c t m e limit =
    let w = world p.head p.history in
    let gives = held-gives p.head w c (shares-world p.head p.history s.ground) (Table t) m
    (prey-held p.head w c (sound-of s).locks t (prey-of (prey p.head w.holds c) (λ t. option_map_or escalated (held w.holds c (Table t)) X) t m e)) in
    never _ gives.0 gives.1 limit
