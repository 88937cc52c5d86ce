-- What is read of own entries goes on along a history.
use Rattle.std.proofs.Common.{◌≡◌, ◌≤◌, ◌<◌, ◌+◌, ◌∙◌, ℕ, List, [], ◌∷◌, ◌++◌, true, false, length, take, refl, ap, sym, subst, arith, get_or, None, Some, Option}
use Rattle.std.specs.Option.{option_map}
use Rattle.std.specs.Prelude.{IfSome}
use Rattle.std.proofs.Math.Seq.{take-length}
use Rattle.iso_modes.specs.declared.Mode.{Mode}
use Rattle.std.proofs.lemmas.List.{take_more}
use Rattle.iso_history.proofs.Snoc.{world-snoc}
use Rattle.iso_history.proofs.limits.Waiting.{conn_eq-is}
use Rattle.iso_history.specs.After.{after, world, world_from}
use Rattle.iso_history.specs.Lasts.{due_of, due_of_claim, last_of}
use Rattle.iso_history.specs.World.{Last, World}
use Rattle.iso_history.specs.World.Last.{Looked}
use Rattle.iso_history.specs.declared.entry.Entry.{Entry}
use Rattle.iso_history.specs.declared.entry.Who.{Who}
use Rattle.iso_history.specs.declared.entry.Who.TheVariants.{Agent, Dispatcher}
use Rattle.iso_types.specs.Ids.{conn_eq}
use Rattle.iso_types.specs.declared.head.Head.{Head}
use Rattle.iso_types.specs.declared.value.Conn.{Conn}
use Rattle.iso_types.specs.declared.value.Rid.{Rid}
use Rattle.iso_types.specs.declared.value.TableId.{TableId}
use Rattle.iso_trials.specs.Owned.{IsOwn, looked_of}
use Rattle.iso_trials.specs.declared.owns.Own.{Own}

module _ (head : Head) (w : World) (c : Conn) (e : Entry) (o : Own) (is : IsOwn w c o) where
  -- an entry of the dispatcher
  pub own-dispatcher : e.who ≡ Dispatcher → IsOwn (after head w e) c o
  own-dispatcher who = record { looked = rw who is.looked; awaits = rw who is.awaits; due = rw who is.due }

  -- an entry of another connection
  pub own-other : (m : Conn) → e.who ≡ Agent m → conn_eq c m ≡ false → IsOwn (after head w e) c o
  own-other m who other =
      record { looked = rw (who, other) is.looked; awaits = rw (who, other) is.awaits; due = rw (who, other) is.due }

  -- an own entry
  pub own-own : (m : Conn) (p : Own) → e.who ≡ Agent m → conn_eq c m ≡ true → p.looked ≡ looked_of (last_of e.act)
      → p.awaits ≡ due_of_claim (last_of e.act) → ((l : Last) → o.awaits ≡ due_of_claim l → p.due ≡ due_of e.act l)
      → IsOwn (after head w e) c p
  own-own m p who own looked awaits due =
      let same : c ≡ m = conn_eq-is c m own in
      record {
        looked = rw (who, own) looked;
        awaits = rw (who, own) awaits;
        due = rw (who, own) (due (w.last m) (subst (λ (d : Conn). o.awaits ≡ due_of_claim (w.last d)) same is.awaits));
      }

-- before the first entry
pub own-start : (head : Head) (c : Conn) (o : Own) → o.looked ≡ None → o.awaits ≡ None → o.due ≡ None → IsOwn (world head []) c o
unfolding world world_from
own-start head c o looked awaits due = record { looked = looked; awaits = awaits; due = due }

-- one entry more
pub own-next : (head : Head) (es : List Entry) (c : Conn) (o p : Own) (k : ℕ) (e : Entry) → k < length es → e ≡ get_or es k e
    → IsOwn (world head (take k es)) c o → ((h : Head) (w : World) → IsOwn w c o → IsOwn (after h w e) c p)
    → IsOwn (world head (take (k + 1) es)) c p
own-next head es c o p k e lt is was step =
    let more : take (k + 1) es ≡ take k es ++ e ∷ [] = take_more es k e lt ∙ ap (λ (x : Entry). take k es ++ x ∷ []) (sym is) in
    subst (λ (fs : List Entry). IsOwn (world head fs) c p) (sym more)
    (subst (λ (w : World). IsOwn w c p) (sym (world-snoc head (take k es) e)) (step head (world head (take k es)) was))

-- at the end
pub own-end : (head : Head) (es : List Entry) (c : Conn) (o : Own) (n : ℕ) → n ≡ length es → IsOwn (world head (take n es)) c o → IsOwn (world head es) c o
own-end head es c o n same is =
    let all : take n es ≡ es = ap (λ (k : ℕ). take k es) same ∙ take-length es in
    subst (λ (fs : List Entry). IsOwn (world head fs) c o) all is

-- the slot of a last look, where it is read
pub looked-if : (l : Last) (o : Option (TableId × Rid)) → o ≡ looked_of l → IfSome o (λ p. l ≡ Looked p.0 p.1)
looked-if l None e = tt
looked-if (Looked u s) (Some p) e =
    let pair : p ≡ (u, s) = cc in
    ap (λ (q : TableId × Rid). Looked q.0 q.1) (sym pair)
looked-if (Last.Awaits u m) (Some p) e = absurd (cc)
looked-if Last.Claimed (Some p) e = absurd (cc)
looked-if Last.Other (Some p) e = absurd (cc)

-- the table of a Collapse, where it is read
pub due-if : (d e : Option (TableId × Mode)) (o : Option TableId) → d ≡ e → o ≡ option_map (λ x. x.0) d → IfSome o (λ t. option_map (λ x. x.0) e ≡ Some t)
due-if d e None same is = tt
due-if d e (Some t) same is = ap (λ (x : Option (TableId × Mode)). option_map (λ y. y.0) x) (sym same) ∙ sym is
