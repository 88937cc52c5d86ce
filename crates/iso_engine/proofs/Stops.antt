-- What the status of a history says of its stops.
use Rattle.std.proofs.Common.{◌≡◌, ℕ, ◌⊎◌, inl, inr, Bool, true, false, ◌||◌, List, [], ◌∷◌, refl, arith}
use Rattle.std.specs.List.{list_any}
use Rattle.std.specs.Prelude.{if◌then◌else◌}
use Rattle.iso_conduct.specs.Conduct.{stops_for_memory}
use Rattle.iso_engine.specs.Stopping.{has_limit_stop, has_memory_stop, status_of, stops_at_limit}
use Rattle.iso_history.specs.After.{after, start, world, world_from}
use Rattle.iso_history.specs.Paces.{is_stop, pace_by}
use Rattle.iso_history.specs.World.{Pace, World}
use Rattle.iso_history.specs.declared.entry.Act.{Act}
use Rattle.iso_history.specs.declared.entry.Act.TheVariants.{Stopped}
use Rattle.iso_history.specs.declared.entry.Cause.{Cause}
use Rattle.iso_history.specs.declared.entry.Entry.{Entry}
use Rattle.iso_history.specs.declared.entry.Who.{Who}
use Rattle.iso_history.specs.declared.entry.Who.TheVariants.{Agent, Dispatcher}
use Rattle.iso_types.specs.declared.head.Head.{Head}

or-parts : (a b : Bool) → (a || b) ≡ false → (a ≡ false) × (b ≡ false)
or-parts true b e = cc
or-parts false b e = (refl, e)

-- ---- nobody stopped

-- somebody stopped, for whatever cause
abbrev has_stop : List Entry → Bool
has_stop es = list_any (λ e. is_stop e.act) es

-- a stop is one for want of memory, or one at a limit
by-cause : (cause : Cause) → stops_for_memory (Stopped cause) ≡ false → stops_at_limit (Stopped cause) ≡ false → is_stop (Stopped cause) ≡ false
by-cause Cause.Memory m l = cc
by-cause Cause.History m l = cc
by-cause Cause.Table m l = cc

no-stop : (a : Act) → stops_for_memory a ≡ false → stops_at_limit a ≡ false → is_stop a ≡ false
no-stop (Stopped cause) m l = by-cause cause m l
no-stop a m l = refl

no-stops : (es : List Entry) → has_memory_stop es ≡ false → has_limit_stop es ≡ false → has_stop es ≡ false
no-stops [] m l = refl
no-stops (e ∷ es) m l =
    let ms = or-parts (stops_for_memory e.act) (has_memory_stop es) m in
    let ls = or-parts (stops_at_limit e.act) (has_limit_stop es) l in
    rw (no-stop e.act ms.0 ls.0, no-stops es ms.1 ls.1) refl

still-paced : (p : Pace) (who : Who) (a : Act) → is_stop a ≡ false → p.stopped ≡ false → (pace_by p who a).stopped ≡ false
still-paced p Dispatcher a n s = rw (n, s) refl
still-paced p (Agent c) a n s = rw (n, s) refl

still-from : (head : Head) (w : World) (es : List Entry) → has_stop es ≡ false → w.pace.stopped ≡ false → (world_from head w es).pace.stopped ≡ false
unfolding world_from
still-from head w [] n s = s
still-from head w (e ∷ es) n s =
    let both = or-parts (is_stop e.act) (has_stop es) n in
    still-from head (after head w e) es both.1 (still-paced w.pace e.who e.act both.0 s)

-- where nobody stopped, none stands in the world
stopless : (head : Head) (es : List Entry) → has_stop es ≡ false → (world head es).pace.stopped ≡ false
unfolding world
stopless head es n = still-from head (start head) es n refl

-- ---- the status of two truth values

abbrev Picked : Bool → Bool → ℕ
Picked m l = if m then 5 else if l then 6 else 0

picked-none : (m l : Bool) → Picked m l ≡ 0 → (m ≡ false) × (l ≡ false)
picked-none true l e = let q : 5 ≡ 0 = e in absurd (omega arith)
picked-none false true e = let q : 6 ≡ 0 = e in absurd (omega arith)
picked-none false false e = (refl, refl)

picked-limit : (m l : Bool) → Picked m l ≡ 6 → l ≡ true
picked-limit true l e = let q : 5 ≡ 6 = e in absurd (omega arith)
picked-limit false true e = refl
picked-limit false false e = let q : 0 ≡ 6 = e in absurd (omega arith)

picked-one : (m l : Bool) → (Picked m l ≡ 0) ⊎ ((Picked m l ≡ 5) ⊎ (Picked m l ≡ 6))
picked-one true l = inr (inl refl)
picked-one false true = inr (inr refl)
picked-one false false = inl refl

-- a history of status 0 has no Stopped
pub unstopped : (head : Head) (es : List Entry) → status_of es ≡ 0 → (world head es).pace.stopped ≡ false
unstopped head es e =
    let none = picked-none (has_memory_stop es) (has_limit_stop es) e in
    stopless head es (no-stops es none.0 none.1)

-- in one of status 6 somebody stopped at a limit
pub limited : (es : List Entry) → status_of es ≡ 6 → has_limit_stop es ≡ true
limited es e = picked-limit (has_memory_stop es) (has_limit_stop es) e

-- one of three
pub one-of : (es : List Entry) → (status_of es ≡ 0) ⊎ ((status_of es ≡ 5) ⊎ (status_of es ≡ 6))
one-of es = picked-one (has_memory_stop es) (has_limit_stop es)
