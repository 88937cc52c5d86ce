-- After an answer a Claim comes next exactly where the step was queued.
use Rattle.std.proofs.Common.{◌≡◌, Bool, true, false, List, [], ◌∷◌, refl, Option, Some, None, if◌then◌else◌}
use Rattle.iso_conduct.proofs.Fronts.{IsFront, ending-front, freed-claim, has_claim, no-append, no-claim, opened-front, past-claim}
use Rattle.iso_conduct.specs.Answers.{answers}
use Rattle.iso_conduct.specs.Parts.{Part}
use Rattle.iso_conduct.specs.Parts.Part.{Asks, Claims, IndexScan}
use Rattle.iso_conduct.specs.Points.{Point, behind, due_by, ending, freeing, is_kept, looked_by, opened_out, past_look, queued_up, standing_at, told_point}
use Rattle.iso_conduct.specs.declared.moves.Told.{Told}
use Rattle.iso_types.specs.declared.value.Rid.{Rid}
use Rattle.iso_types.specs.declared.value.Value.{Value}

-- a Claim comes next
abbrev pub is_claim_next : List Part → Bool
is_claim_next (Claims ∷ ps) = true
is_claim_next _ = false

-- the answer says that the connection waits
abbrev pub says_wait : Told → Bool
says_wait Told.Queued = true
says_wait Told.Blocked = true
says_wait _ = false

no-next : (ps : List Part) → has_claim ps ≡ false → is_claim_next ps ≡ false
unfolding has_claim
no-next [] h = refl
no-next (Claims ∷ ps) h = absurd (cc)
no-next (x ∷ ps) h = refl

queued-next : (ps : List Part) → is_claim_next (queued_up ps) ≡ true
queued-next [] = refl
queued-next (Asks name mode ∷ ps) = refl
queued-next (x ∷ ps) = refl

standing-next : (key : Value) (r : Rid) (ps : List Part) → is_claim_next ps ≡ false → is_claim_next (standing_at key r ps) ≡ false
standing-next key r [] h = refl
standing-next key r (IndexScan k at ∷ ps) h = refl
standing-next key r (x ∷ ps) h = h

looked-next : (p : Point) (shown : Option (List Value)) (fresh b : Bool) → has_claim (past_look p.left) ≡ false
    → is_claim_next (looked_by p shown fresh b).left ≡ false
looked-next p shown fresh true h = no-next (past_look p.left) h
looked-next p shown fresh false h = no-next _ (no-append (if fresh then freeing p.left else []) (past_look p.left) (freed-claim fresh p.left) h)

-- after an answer
pub told-next : (p : Point) (t : Told) → answers (due_by p.kept p.left) t ≡ true → IsFront p.left
    → is_claim_next (told_point p t).left ≡ says_wait t
unfolding IsFront
told-next p Told.Done a h = no-next (behind p.left) h
told-next p Told.Granted a h = no-next (behind p.left) h
told-next p Told.Queued a h = queued-next p.left
told-next p Told.Blocked a h = refl
told-next p Told.TimedOut a h = refl
told-next p (Told.Ended reason) a h = refl
told-next p (Told.Escalates t) a h = refl
told-next p (Told.Refused code) a h = refl
told-next p (Told.Shown shown fresh) a h = looked-next p shown fresh (is_kept p shown) (past-claim p.kept p.left shown fresh a h)
told-next p Told.EndOfTable a h = no-next (opened_out p (behind p.left)) (opened-front p (behind p.left) h)
told-next p Told.Past a h = no-next (opened_out p (behind p.left)) (opened-front p (behind p.left) h)
told-next p (Told.At key r) a h = standing-next key r p.left (no-next p.left (no-claim p.kept p.left (Told.At key r) a refl h))
told-next p (Told.Undone true) a h = no-next p.left (no-claim p.kept p.left (Told.Undone true) a refl h)
told-next p (Told.Undone false) a h = no-next (ending p.left) (ending-front p.left)
told-next p (Told.Floor (Some n)) a h = refl
told-next p (Told.Floor None) a h = refl
