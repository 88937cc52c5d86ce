-- What is known of cycles goes on along a history.
use Rattle.std.proofs.Common.{◌≡◌, ◌<◌, ◌+◌, ℕ, false, List, [], ◌∷◌, ◌++◌, length, take, ap, sym, subst, ◌∙◌, arith, Some, None, Option, get_or}
use Rattle.std.proofs.Math.Seq.{take-length}
use Rattle.std.proofs.lemmas.List.{length-append, take-append-le, take_more}
use Rattle.iso_director.proofs.Edges.{untied-after}
use Rattle.iso_director.proofs.Halts.{last-stands}
use Rattle.iso_director.specs.Untied.{WasAcyclic, may_tie}
use Rattle.iso_history.proofs.Snoc.{world-snoc}
use Rattle.iso_history.proofs.facts.Guarded.{Ground-take}
use Rattle.iso_history.proofs.whole.Sound.{sound-at}
use Rattle.iso_history.specs.After.{after, world}
use Rattle.iso_history.specs.Facts.{WaitersOpen}
use Rattle.iso_history.specs.Legal.{Allowed, Ground}
use Rattle.iso_history.specs.Quiet.{cycle_in}
use Rattle.iso_history.specs.World.{World}
use Rattle.iso_history.specs.declared.entry.Entry.{Entry}
use Rattle.iso_pace.proofs.Waits.{none-chosen, without-cycle}
use Rattle.iso_state.specs.Stands.{Content, Stands}
use Rattle.iso_types.specs.declared.head.Head.{Head}

-- one entry
pub acyclic-after : (head : Head) (w : World) (e : Entry) → Allowed head w e → WaitersOpen w → may_tie e.act ≡ false → cycle_in head w ≡ None
    → cycle_in head (after head w e) ≡ None
acyclic-after head w e al open_ free none = none-chosen head (after head w e) (untied-after head w e al open_ free (without-cycle head w none))

module _ (p : Content) (s : Stands p) where
  -- one entry more
  pub untied-next : (n : ℕ) (e : Entry) → n < length p.history → e ≡ get_or p.history n e → may_tie e.act ≡ false
      → WasAcyclic p.head p.history (Some n) → WasAcyclic p.head p.history (Some (n + 1))
  untied-next n e lt is calm known =
      let more : take (n + 1) p.history ≡ take n p.history ++ e ∷ [] =
      take_more p.history n e lt ∙ ap (λ (x : Entry). take n p.history ++ x ∷ []) (sym is) in
      let ground = subst (λ (es : List Entry). Ground p.head es) more (Ground-take p.head p.history (n + 1) s.ground) in
      let al = last-stands p.head (take n p.history) e ground in
      let open_ = (sound-at p.head p.history s.ground n).locks.open_waits in
      let next = acyclic-after p.head (world p.head (take n p.history)) e al open_ calm known.1 in (
        omega (arith, lt),
        subst (λ (es : List Entry). cycle_in p.head (world p.head es) ≡ None) (sym more)
            (subst (λ (w : World). cycle_in p.head w ≡ None) (sym (world-snoc p.head (take n p.history) e)) next),
      )

  -- where it is known up to the end, there is none
  pub untied-end : (n : ℕ) → n ≡ length p.history → WasAcyclic p.head p.history (Some n) → cycle_in p.head (world p.head p.history) ≡ None
  untied-end n is known =
      let all : take n p.history ≡ p.history = ap (λ (k : ℕ). take k p.history) is ∙ take-length p.history in
      subst (λ (es : List Entry). cycle_in p.head (world p.head es) ≡ None) all known.1

-- where none was found it is known up to the end
pub untied-now : (head : Head) (es : List Entry) (n : ℕ) → n ≡ length es → cycle_in head (world head es) ≡ None → WasAcyclic head es (Some n)
untied-now head es n is none =
    let all : take n es ≡ es = ap (λ (k : ℕ). take k es) is ∙ take-length es in
    (omega (arith, is), subst (λ (fs : List Entry). cycle_in head (world head fs) ≡ None) (sym all) none)

-- and stays known as the history grows
pub untied-grown : (head : Head) (es more : List Entry) (o : Option ℕ) → WasAcyclic head es o → WasAcyclic head (es ++ more) o
untied-grown head es more None f = tt
untied-grown head es more (Some n) f =
    let long : length (es ++ more) ≡ length es + length more = length-append es more in
    let le = f.0 in (
      omega (arith, le, long),
      subst (λ (fs : List Entry). cycle_in head (world head fs) ≡ None) (sym (take-append-le n es more f.0)) f.1,
    )

pub untied-as : (head : Head) (es fs more : List Entry) (o : Option ℕ) → fs ≡ es ++ more → WasAcyclic head es o → WasAcyclic head fs o
untied-as head es fs more o is f = subst (λ (x : List Entry). WasAcyclic head x o) (sym is) (untied-grown head es more o f)
