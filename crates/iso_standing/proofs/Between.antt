-- What stands in front of a statement's own parts after an answer: the table of a Collapse, the row of a Free.
use Rattle.std.proofs.Common.{◌≡◌, ◌⊎◌, inl, inr, Bool, true, false, List, [], ◌∷◌, ◌++◌, refl, Option, Some, None, if◌then◌else◌}
use Rattle.iso_conduct.specs.Parts.{Part}
use Rattle.iso_conduct.specs.Parts.Part.{Asks, Claims, Collapses, EntryLook, Frees, Leaves, Replies, TableScan}
use Rattle.iso_conduct.specs.Points.{Point, behind, ending, freeing, frees, is_kept, looked_by, past_look, queued_up, told_point}
use Rattle.iso_conduct.specs.declared.moves.Told.{Told}
use Rattle.iso_standing.proofs.Fronted.{AreSteps, BehindClaim, opened-steps, past-steps, rest-steps, standing-steps}
use Rattle.iso_types.specs.declared.value.Rid.{Rid}
use Rattle.iso_types.specs.declared.value.TableId.{TableId}
use Rattle.iso_types.specs.declared.value.Value.{Value}

-- the table of the Collapse that comes next
abbrev pub collapse_of : List Part → Option TableId
collapse_of (Collapses t ∷ ps) = Some t
collapse_of _ = None

-- the table of the Collapse behind a Claim
abbrev pub awaited_of : List Part → Option TableId
awaited_of (Claims ∷ ps) = collapse_of ps
awaited_of _ = None

-- the row that is given back next
abbrev pub freed_of : List Part → Option (TableId × Rid)
freed_of (Frees t r ∷ ps) = Some (t, r)
freed_of _ = None

-- the row at which a look is due
abbrev pub sought_by : List Part → Option (TableId × Rid)
sought_by (TableScan t want r ∷ ps) = Some (t, record { 0 = r })
sought_by (EntryLook k key r ∷ ps) = Some (k.table, r)
sought_by _ = None

-- nothing stands in front of them
pub record IsBare (ps : List Part) : Type 0 where
  pub collapse : collapse_of ps ≡ None
  pub awaited : awaited_of ps ≡ None
  pub freed : freed_of ps ≡ None

pub steps-bare : (ps : List Part) → AreSteps ps → IsBare ps
steps-bare [] h = record { collapse = refl; awaited = refl; freed = refl }
steps-bare (Claims ∷ ps) h = absurd h.0
steps-bare (Collapses t ∷ ps) h = absurd h.0
steps-bare (Frees t r ∷ ps) h = absurd h.0
steps-bare (x ∷ ps) h = record { collapse = refl; awaited = refl; freed = refl }

-- behind a Claim stands no other, and no Free
pub behind-bare : (ps : List Part) → BehindClaim ps → (awaited_of ps ≡ None) × (freed_of ps ≡ None)
behind-bare [] h = (refl, refl)
behind-bare (Claims ∷ ps) h = absurd h.0
behind-bare (Collapses t ∷ ps) h = (refl, refl)
behind-bare (Frees t r ∷ ps) h = absurd h.0
behind-bare (x ∷ ps) h = (refl, refl)

bare : (ps : List Part) → collapse_of ps ≡ None → awaited_of ps ≡ None → freed_of ps ≡ None → IsBare ps
bare ps c a f = record { collapse = c; awaited = a; freed = f }

-- once the undos are made only the reply or the Rollback is left
pub ending-bare : (ps : List Part) → IsBare (ending ps)
ending-bare [] = bare [] refl refl refl
ending-bare (Leaves code reason ∷ ps) = bare (Leaves code reason ∷ []) refl refl refl
ending-bare (Replies code changed ∷ ps) = bare (Replies code changed ∷ []) refl refl refl
ending-bare (x ∷ ps) = ending-bare ps

-- a queued step of the statement's own awaits no escalation
queued-bare : (ps : List Part) → AreSteps ps → IsBare (queued_up ps)
queued-bare [] h = bare _ refl refl refl
queued-bare (Asks name mode ∷ ps) h = bare _ refl (steps-bare ps h.1).collapse refl
queued-bare (Claims ∷ ps) h = absurd h.0
queued-bare (Collapses t ∷ ps) h = absurd h.0
queued-bare (x ∷ ps) h = bare _ refl refl refl

-- the answer puts a Collapse, or it may be a Free, in front
abbrev pub says_more : Told → Bool
says_more (Told.Escalates t) = true
says_more (Told.Shown shown fresh) = true
says_more _ = false

-- after any other answer to a step of the statement's own
pub told-bare : (p : Point) (t : Told) → says_more t ≡ false → AreSteps p.left → IsBare (told_point p t).left
told-bare p Told.Done e h = steps-bare (behind p.left) (rest-steps p.left h)
told-bare p Told.Granted e h = steps-bare (behind p.left) (rest-steps p.left h)
told-bare p Told.Queued e h = queued-bare p.left h
told-bare p Told.Blocked e h = bare _ refl (steps-bare p.left h).collapse refl
told-bare p Told.TimedOut e h = bare _ refl refl refl
told-bare p (Told.Ended reason) e h = bare _ refl refl refl
told-bare p (Told.Escalates t) e h = absurd (cc)
told-bare p (Told.Refused code) e h = bare _ refl refl refl
told-bare p (Told.Shown shown fresh) e h = absurd (cc)
told-bare p Told.EndOfTable e h = steps-bare _ (opened-steps p (behind p.left) (rest-steps p.left h))
told-bare p Told.Past e h = steps-bare _ (opened-steps p (behind p.left) (rest-steps p.left h))
told-bare p (Told.At key r) e h = steps-bare _ (standing-steps key r p.left h)
told-bare p (Told.Undone true) e h = steps-bare p.left h
told-bare p (Told.Undone false) e h = ending-bare p.left
told-bare p (Told.Floor (Some n)) e h = bare _ refl refl refl
told-bare p (Told.Floor None) e h = bare _ refl refl refl

-- ---- after a look

-- the row of a Free is the one that was looked at, where the look left a Fresh hold
abbrev pub FreesSought : Bool → List Part → List Part → Type 0
FreesSought fresh ps qs = (freed_of qs ≡ None) ⊎ ((fresh ≡ true) × (freed_of qs ≡ sought_by ps))

pub record IsLooked (fresh : Bool) (ps qs : List Part) : Type 0 where
  pub collapse : collapse_of qs ≡ None
  pub awaited : awaited_of qs ≡ None
  pub freed : FreesSought fresh ps qs

bare-looked : (fresh : Bool) (ps qs : List Part) → IsBare qs → IsLooked fresh ps qs
bare-looked fresh ps qs b = record { collapse = b.collapse; awaited = b.awaited; freed = inl b.freed }

freeing-looked : (fresh : Bool) (ps qs : List Part) → AreSteps qs → IsLooked fresh ps ((if fresh then freeing ps else []) ++ qs)
freeing-looked false ps qs h = bare-looked false ps qs (steps-bare qs h)
freeing-looked true (TableScan t want r ∷ ps) qs h = go (frees want)
  where
    go : (b : Bool) → IsLooked true (TableScan t want r ∷ ps) ((if b then Frees t (record { 0 = r }) ∷ [] else []) ++ qs)
    go true = record { collapse = refl; awaited = refl; freed = inr (refl, refl) }
    go false = bare-looked true _ qs (steps-bare qs h)
freeing-looked true (EntryLook k key r ∷ ps) qs h = go (frees k.want)
  where
    go : (b : Bool) → IsLooked true (EntryLook k key r ∷ ps) ((if b then Frees k.table r ∷ [] else []) ++ qs)
    go true = record { collapse = refl; awaited = refl; freed = inr (refl, refl) }
    go false = bare-looked true _ qs (steps-bare qs h)
freeing-looked true [] qs h = bare-looked true [] qs (steps-bare qs h)
freeing-looked true (x ∷ ps) qs h = bare-looked true (x ∷ ps) qs (steps-bare qs h)

pub looked-between : (p : Point) (shown : Option (List Value)) (fresh : Bool) → AreSteps p.left
    → IsLooked fresh p.left (told_point p (Told.Shown shown fresh)).left
looked-between p shown fresh h = go (is_kept p shown)
  where
    go : (b : Bool) → IsLooked fresh p.left (looked_by p shown fresh b).left
    go true = bare-looked fresh p.left _ (steps-bare (past_look p.left) (past-steps p.left h))
    go false = freeing-looked fresh p.left (past_look p.left) (past-steps p.left h)
