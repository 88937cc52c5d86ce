-- What the answers of the program come to.
use Rattle.std.proofs.Common.{◌≡◌, ℕ, ◌≤◌, ◌⊎◌, inl, inr, List, [], length, refl, Option}
use Rattle.std.specs.Io.KnownBytes.{Appends, IsAtEnd}
use Rattle.iso_engine.specs.Job.{IsOutcome, IsRefusal, IsWritten, TellsRefusal, Telling, refusal_at, too_long}
use Rattle.iso_history.specs.declared.entry.Entry.{Entry}
use Rattle.iso_io.specs.Moves.{AppendsPart}
use Rattle.iso_script.specs.Reading.{bad}
use Rattle.iso_script.specs.declared.fault.LineCause.{LineCause}

-- a refusal at a bad line, of bytes behind which none is left, is an outcome
pub refusal-outcome : (Told : Telling) (bytes : List ℕ) (n : ℕ) (why : LineCause) (status : ℕ) (history : List Entry) (old new : Option (List ℕ))
    → length bytes ≤ 1048576 → bad bytes n why → IsRefusal n why status history old new → (left : Option (List ℕ)) → IsAtEnd left
    → IsOutcome Told bytes left status history old new
refusal-outcome Told bytes n why status history old new few b (inl r) left end = inl (r.0, refusal_at n why, inr (end, few, (n, why, b, refl)), r.1, r.2)
refusal-outcome Told bytes n why status history old new few b (inr r) left end = inr (inl (inr r.0, r.1, r.2))

-- it is told in this text
pub refusal-text : (bytes : List ℕ) (n : ℕ) (why : LineCause) (failed : Type 0) (old new : Option (List ℕ))
    → length bytes ≤ 1048576 → bad bytes n why → IsWritten failed old new (refusal_at n why) → (left : Option (List ℕ)) → IsAtEnd left
    → TellsRefusal bytes left failed old new
refusal-text bytes n why failed old new few b w left end = (refusal_at n why, inr (end, few, (n, why, b, refl)), w)

-- too many bytes are refused
pub too_long-outcome : (Told : Telling) (bytes : List ℕ) (left : Option (List ℕ)) (status : ℕ) (history : List Entry) (old new : Option (List ℕ))
    → length bytes ≡ 1048577 → status ≡ 2 → history ≡ [] → AppendsPart old new too_long → IsOutcome Told bytes left status history old new
too_long-outcome Told bytes left status history old new l s h p = inl (s, too_long, inl (l, refl), h, p)

-- nothing was read, or could not be
pub unread-outcome : (Told : Telling) (bytes : List ℕ) (left : Option (List ℕ)) (status : ℕ) (history : List Entry) (old new : Option (List ℕ))
    → (status ≡ 3) ⊎ (status ≡ 5) → history ≡ [] → Appends old new [] → IsOutcome Told bytes left status history old new
unread-outcome Told bytes left status history old new s h a = inr (inl (s, h, a))
