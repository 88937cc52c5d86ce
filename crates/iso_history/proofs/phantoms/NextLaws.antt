-- What a guarded Next says of the pair found.
use Rattle.std.proofs.Common.{◌≡◌, Bool, true, false, refl, ap, sym, ◌∙◌, subst, Some, None, Option}
use Rattle.std.specs.Prelude.{if◌then◌else◌}
use Rattle.iso_history.specs.Entries.{found, is_in_range, stand_of}
use Rattle.iso_history.specs.Holds.{next_name}
use Rattle.iso_history.specs.Nexts.{next, stand_after}
use Rattle.iso_history.specs.Requests.{Outcome, request}
use Rattle.iso_history.specs.Requests.Outcome.{Gives, Limit}
use Rattle.iso_history.specs.World.{World}
use Rattle.iso_history.specs.declared.entry.Got.{Got}
use Rattle.iso_history.specs.declared.entry.Stand.{Stand}
use Rattle.iso_history.specs.declared.entry.Stand.TheVariants.{At, Past}
use Rattle.iso_modes.specs.declared.Mode.TheVariants.{S}
use Rattle.iso_types.specs.declared.head.Head.{Head}
use Rattle.iso_types.specs.declared.head.Range.{Range}
use Rattle.iso_types.specs.declared.value.Conn.{Conn}
use Rattle.iso_types.specs.declared.value.IndexId.{IndexId}
use Rattle.iso_types.specs.declared.value.Name.{Name}
use Rattle.iso_types.specs.declared.value.Rid.{Rid}
use Rattle.iso_types.specs.declared.value.Value.{Value}

stand-found : (range : Range) (p : Value × Rid) (b : Bool) → is_in_range range p.0 ≡ b → stand_of range (Some p) ≡ (if b then At p.0 p.1 else Past)
stand-found range p b e = rw e refl

stand-not-queued : (range : Range) (o : Option (Value × Rid)) (n : Name) → stand_of range o ≡ Stand.Queued n → ⊥
stand-not-queued range None n e = cc
stand-not-queued range (Some p) n e = go (is_in_range range p.0) refl
  where
    go : (b : Bool) → is_in_range range p.0 ≡ b → ⊥
    go true f = let z : At p.0 p.1 ≡ Stand.Queued n = sym (stand-found range p true f) ∙ e in cc
    go false f = let z : Past ≡ Stand.Queued n = sym (stand-found range p false f) ∙ e in cc

-- a step stands at the pair found, in the range
pub stands-at : (range : Range) (o : Option (Value × Rid)) (v : Value) (r : Rid) → stand_of range o ≡ At v r → (o ≡ Some (v, r)) × (is_in_range range v ≡ true)
stands-at range None v r e = cc
stands-at range (Some p) v r e = go (is_in_range range p.0) refl
  where
    go : (b : Bool) → is_in_range range p.0 ≡ b → (Some p ≡ Some (v, r)) × (is_in_range range v ≡ true)
    go true f =
        let z : At p.0 p.1 ≡ At v r = sym (stand-found range p true f) ∙ e in
        let a : p.0 ≡ v = cc in let b : p.1 ≡ r = cc in
        (ap (λ (x : Value). Some (x, p.1)) a ∙ ap (λ (x : Rid). Some (v, x)) b, subst (λ (x : Value). is_in_range range x ≡ true) a f)
    go false f = let z : Past ≡ At v r = sym (stand-found range p false f) ∙ e in absurd (cc)

-- or past the range
pub stands-past : (range : Range) (p : Value × Rid) → stand_of range (Some p) ≡ Past → is_in_range range p.0 ≡ false
stands-past range p e = go (is_in_range range p.0) refl
  where
    go : (b : Bool) → is_in_range range p.0 ≡ b → is_in_range range p.0 ≡ false
    go false f = f
    go true f = let z : At p.0 p.1 ≡ Past = sym (stand-found range p true f) ∙ e in absurd (cc)

-- the name that a Next queues for
pub next-queued : (head : Head) (w : World) (c : Conn) (i : IndexId) (range : Range) (at : Option (Value × Rid)) (guarded : Bool) (n : Name)
    → next head w c i range at guarded ≡ Some (Stand.Queued n) → n ≡ next_name w i range at
next-queued head w c i range at false n e = let z : stand_of range (found w i range at) ≡ Stand.Queued n = inside _ _ e in
    absurd (stand-not-queued range (found w i range at) n z)
  where
    inside : (a b : Stand) → Some a ≡ Some b → a ≡ b
    inside a b e = cc
next-queued head w c i range at true n e = go (request head w c (next_name w i range at) S) e
  where
    inside : (a b : Stand) → Some a ≡ Some b → a ≡ b
    inside a b e = cc

    go : (o : Outcome) → stand_after o (next_name w i range at) (stand_of range (found w i range at)) ≡ Some (Stand.Queued n) → n ≡ next_name w i range at
    go (Gives Got.Granted) e = absurd (stand-not-queued range (found w i range at) n (inside _ _ e))
    go (Gives (Got.Queued m)) e = cc
    go (Gives Got.TimedOut) e = cc
    go Limit e = cc

-- where a Next stands that was granted
pub next-stands : (head : Head) (w : World) (c : Conn) (i : IndexId) (range : Range) (at : Option (Value × Rid)) (guarded : Bool) (s : Stand)
    → ((n : Name) → s ≡ Stand.Queued n → ⊥) → ((n : Name) → s ≡ Stand.TimedOut n → ⊥)
    → next head w c i range at guarded ≡ Some s → stand_of range (found w i range at) ≡ s
next-stands head w c i range at false s q t e = cc
next-stands head w c i range at true s q t e = go (request head w c (next_name w i range at) S) e
  where
    inside : (a b : Stand) → Some a ≡ Some b → a ≡ b
    inside a b e = cc

    go : (o : Outcome) → stand_after o (next_name w i range at) (stand_of range (found w i range at)) ≡ Some s → stand_of range (found w i range at) ≡ s
    go (Gives Got.Granted) e = inside _ _ e
    go (Gives (Got.Queued m)) e = absurd (q (next_name w i range at) (sym (inside _ _ e)))
    go (Gives Got.TimedOut) e = absurd (t (next_name w i range at) (sym (inside _ _ e)))
    go Limit e = cc
