-- A history that has finished ends with Finish.
use Rattle.std.proofs.Common.{◌≡◌, Bool, true, false, not, List, [], ◌∷◌, ◌++◌, refl, sym, ap, ◌∙◌}
use Rattle.std.proofs.lemmas.Bool.{both_ways}
use Rattle.iso_conduct.specs.Legal.{IsFinished}
use Rattle.iso_history.specs.After.{after, start, world, world_from}
use Rattle.iso_history.specs.Legal.{Ground, GroundFrom}
use Rattle.iso_history.specs.Paces.{pace_by}
use Rattle.iso_history.specs.World.{Pace, World}
use Rattle.iso_history.specs.declared.entry.Act.{Act}
use Rattle.iso_history.specs.declared.entry.Act.TheVariants.{Finish}
use Rattle.iso_history.specs.declared.entry.Entry.{Entry}
use Rattle.iso_history.specs.declared.entry.Who.{Who}
use Rattle.iso_history.specs.declared.entry.Who.TheVariants.{Agent, Dispatcher}
use Rattle.iso_types.specs.declared.head.Head.{Head}

-- only Finish finishes
finishes : (p : Pace) (who : Who) (a : Act) → p.finished ≡ false → (pace_by p who a).finished ≡ true → (who ≡ Dispatcher) × (a ≡ Finish)
finishes p Dispatcher Finish f t = (refl, refl)
finishes p Dispatcher a f t = absurd (both_ways _ f t)
finishes p (Agent c) a f t = absurd (both_ways _ f t)

-- nothing comes after it
none-behind : (head : Head) (w : World) (es : List Entry) → GroundFrom head w es → w.pace.finished ≡ true → es ≡ []
unfolding GroundFrom
none-behind head w [] g f = refl
none-behind head w (e ∷ es) g f = absurd (both_ways (not w.pace.finished) (ap not f) g.0.0)

finished-from : (head : Head) (w : World) (es : List Entry) → GroundFrom head w es → w.pace.finished ≡ false
    → (world_from head w es).pace.finished ≡ true → IsFinished es
unfolding GroundFrom world_from
finished-from head w [] g f t = absurd (both_ways _ f t)
finished-from head w (e ∷ es) g f t =
    pick (none-behind head (after head w e) es g.1) (λ is. finished-from head (after head w e) es g.1 is t) (after head w e).pace.finished refl
  where
    pick : ((after head w e).pace.finished ≡ true → es ≡ []) → ((after head w e).pace.finished ≡ false → IsFinished es)
        → (b : Bool) → (after head w e).pace.finished ≡ b → IsFinished (e ∷ es)
    pick none more true is =
        let q = finishes w.pace e.who e.act f is in
        ([], (λ i. (record { who = q.0 i; act = q.1 i }) ∷ none is i))
    pick none more false is = let r = more is in (e ∷ r.0, ap (λ (l : List Entry). e ∷ l) r.1)

-- each entry may stand on its prefix, and Finish stands: so it is the last
pub finished-last : (head : Head) (es : List Entry) → Ground head es → (world head es).pace.finished ≡ true → IsFinished es
unfolding Ground world
finished-last head es g t = finished-from head (start head) es g refl t
