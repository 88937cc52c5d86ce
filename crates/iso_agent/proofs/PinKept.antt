-- A pinned look leaves its pin.
use Rattle.std.proofs.Common.{◌≡◌, Bool, true, false, ap, ◌∙◌, refl, subst, sym, if◌then◌else◌}
use Rattle.std.specs.Prelude.{◌&&◌, nat_lt}
use Rattle.iso_agent.specs.Steps.{is_granted, is_pin, kept_of_look, pins}
use Rattle.iso_conduct.specs.declared.moves.Move.TheVariants as moves
use Rattle.iso_history.specs.After.{world}
use Rattle.iso_history.specs.Looks.{look, shown}
use Rattle.iso_history.specs.Requests.{Outcome}
use Rattle.iso_history.specs.Requests.Outcome.{Gives, Limit}
use Rattle.iso_history.specs.Versions.{slots}
use Rattle.iso_history.specs.declared.entry.Got.{Got}
use Rattle.iso_history.specs.declared.entry.Want.{Want}
use Rattle.iso_reads.specs.Answers.{answer_at, answer_by, is_beside, pin_of, seen}
use Rattle.iso_reads.specs.declared.outcomes.Looked.{Looked}
use Rattle.iso_reads.specs.declared.outcomes.Looked.TheVariants.{EndOfTable, Pinned, Shown}
use Rattle.iso_state.specs.Stands.{Content}
use Rattle.iso_types.specs.declared.value.Conn.{Conn}
use Rattle.iso_types.specs.declared.value.Rid.{Rid}
use Rattle.iso_types.specs.declared.value.TableId.{TableId}

granted-is : (o : Outcome) → is_granted o ≡ true → o ≡ Gives Got.Granted
granted-is (Gives Got.Granted) e = refl
granted-is (Gives (Got.Queued m)) e = absurd (cc)
granted-is (Gives Got.TimedOut) e = absurd (cc)
granted-is Limit e = absurd (cc)

first : (x y : Bool) → (x && y) ≡ true → x ≡ true
first true y e = refl
first false y e = absurd (cc)

second : (x y : Bool) → (x && y) ≡ true → y ≡ true
second true y e = e
second false y e = absurd (cc)

-- what a look that pins is answered
pub pin-kept : (p : Content) (c : Conn) (t : TableId) (r : Rid) (want : Want) (looked : Looked) (fresh b : Bool)
    → pins p.head (world p.head p.history) c (moves.Look t r want) ≡ true → looked ≡ answer_at p c t r want
    → is_pin (kept_of_look looked fresh b) ≡ true
pin-kept p c t r want looked fresh b e is =
    let w = world p.head p.history in
    let x : Bool = nat_lt r.0 (slots w t) in
    let o : Outcome = look p.head w c t r want in
    let y : Bool = is_beside w c t r want in
    let rest = second x (is_granted o && y) e in
    let there = first x (is_granted o && y) e in
    let granted = granted-is o (first (is_granted o) y rest) in
    let beside = second (is_granted o) y rest in
    let pinned : looked ≡ Pinned (pin_of p t r) =
    is ∙ ap (λ (z : Bool). if z then answer_by p c t r want o else EndOfTable) there
    ∙ ap (λ (q : Outcome). answer_by p c t r want q) granted
    ∙ ap (λ (z : Bool). if z then Pinned (pin_of p t r) else Shown (shown w c t r want)) beside in
    subst (λ (l : Looked). is_pin (kept_of_look l fresh b) ≡ true) (sym pinned) refl
