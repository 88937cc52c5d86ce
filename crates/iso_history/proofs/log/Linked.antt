-- Each record that a unit has left is its own, and names the one below it, whatever entry comes.
use Rattle.std.proofs.Common.{◌≡◌, ◌≢◌, ℕ, Bool, true, false, not, List, [], ◌∷◌, ◌++◌, length, refl, ap, sym, ◌∙◌, arith, Some, None, Option, length-append, subst, filter}
use Rattle.std.specs.Prelude.{◌==◌, slice_get}
use Rattle.std.proofs.Math.ListN.{get_or-append}
use Rattle.std.proofs.Math.Seq.{get_or-append_seam}
use Rattle.std.proofs.lemmas.Bool.Decides.{nat_tests}
use Rattle.iso_history.specs.After.{after}
use Rattle.iso_history.specs.Legal.{Allowed, By, ByAgent, ByDispatcher}
use Rattle.iso_history.specs.Linked.{AllBelow, AllLinked, AllOwned, Linked, Owned}
use Rattle.iso_history.specs.Records.{left, left_by, no_note, records_by}
use Rattle.iso_history.specs.Units.{unit_of, unit_of_maker}
use Rattle.iso_history.specs.Versions.{Change, change_of}
use Rattle.iso_history.specs.Versions.Change.{Adds, Keeps, Settles, Takes, Writes}
use Rattle.iso_history.specs.World.{Note, World}
use Rattle.iso_history.specs.declared.entry.Act.{Act}
use Rattle.iso_history.specs.declared.entry.Act.TheVariants.{Undo}
use Rattle.iso_history.specs.declared.entry.Entry.{Entry}
use Rattle.iso_history.specs.declared.entry.Who.{Who}
use Rattle.iso_history.specs.declared.entry.Who.TheVariants.{Agent, Dispatcher}
use Rattle.iso_types.specs.declared.head.Head.{Head}
use Rattle.iso_types.specs.declared.value.Conn.{Conn}
use Rattle.iso_history.proofs.log.Lefts.{Taken, left-add, left-other, left-snoc, left-take, left_by-add, left_by-take}

Linked-below : (notes : List Note) (ms : List ℕ) → Linked notes ms → AllBelow (length notes) ms
Linked-below notes [] h = tt
Linked-below notes (m ∷ ms) h = (h.0, Linked-below notes ms h.3)

Linked-snoc : (notes : List Note) (n : Note) (ms : List ℕ) → Linked notes ms → Linked (notes ++ n ∷ []) ms
Linked-snoc notes n [] h = tt
Linked-snoc notes n (m ∷ ms) h =
    (simp length-append (omega (arith, h.0)), ap (λ z. z.prev_unit) (get_or-append notes (n ∷ []) no_note m h.0) ∙ h.1, h.2, Linked-snoc notes n ms h.3)

linked-add : (notes : List Note) (n : Note) → n.undoes ≡ None → n.prev_unit ≡ slice_get (left notes n.unit) 0 → AllLinked notes → AllLinked (notes ++ n ∷ [])
unfolding AllLinked
linked-add notes n none prev all u = go (n.unit == u) refl
  where
    go : (b : Bool) → (n.unit == u) ≡ b → Linked (notes ++ n ∷ []) (left (notes ++ n ∷ []) u)
    go true e = let same : n.unit ≡ u = grind (arith, nat_tests) in
        rw (left-add u notes n same none) (
          simp length-append (omega arith),
          ap (λ z. z.prev_unit) (get_or-append_seam notes n [] no_note) ∙ prev ∙ ap (λ z. slice_get (left notes z) 0) same,
          Linked-below notes (left notes u) (all u),
          Linked-snoc notes n (left notes u) (all u),
        )
    go false e = let other : n.unit ≢ u = grind (arith, nat_tests) in rw (left-other u notes n other) (Linked-snoc notes n (left notes u) (all u))

linked-take : (notes : List Note) (note : Note) (n : ℕ) → note.undoes ≡ Some n → slice_get (left notes note.unit) 0 ≡ Some n → AllLinked notes
    → AllLinked (notes ++ note ∷ [])
unfolding AllLinked
linked-take notes note n un f all u = go (note.unit == u) refl
  where
    rest : (taken : Taken notes note u n) → Linked notes (left notes u) → Linked notes taken.rest
    rest taken h = (subst (Linked notes) taken.was h).3

    go : (b : Bool) → (note.unit == u) ≡ b → Linked (notes ++ note ∷ []) (left (notes ++ note ∷ []) u)
    go true e = let same : note.unit ≡ u = grind (arith, nat_tests) in
        let taken = left-take u n notes note same un (ap (λ z. slice_get (left notes z) 0) (sym same) ∙ f) (all u) in
        rw taken.is (Linked-snoc notes note taken.rest (rest taken (all u)))
    go false e = let other : note.unit ≢ u = grind (arith, nat_tests) in rw (left-other u notes note other) (Linked-snoc notes note (left notes u) (all u))

-- an undo takes the last record that the unit has left
abbrev pub TakesLast : List Note → ℕ → Change → Type 0
TakesLast notes u (Takes n) = slice_get (left notes u) 0 ≡ Some n
TakesLast notes u _ = Unit {0}

pub change-linked : (w : World) (u : ℕ) (ch : Change) → TakesLast w.records u ch → AllLinked w.records → AllLinked (records_by w u ch)
change-linked w u Keeps f s = s
change-linked w u (Adds t row) f s = linked-add w.records _ refl refl s
change-linked w u (Writes t r row) f s = linked-add w.records _ refl refl s
change-linked w u (Takes n) f s = linked-take w.records _ n refl f s
change-linked w u Settles f s = s

-- what is left is the unit's own
Owned-more : (notes : List Note) (n : Note) (u : ℕ) (ms : List ℕ) → Owned notes u ms → Owned (notes ++ n ∷ []) u ms
Owned-more notes n u [] h = tt
Owned-more notes n u (m ∷ ms) h =
    (simp length-append (omega (arith, h.0)), ap (λ z. z.unit) (get_or-append notes (n ∷ []) no_note m h.0) ∙ h.1, Owned-more notes n u ms h.2)

Owned-filter : (notes : List Note) (u : ℕ) (p : ℕ → Bool) (ms : List ℕ) → Owned notes u ms → Owned notes u (filter p ms)
Owned-filter notes u p [] h = tt
Owned-filter notes u p (m ∷ ms) h = go (Owned-filter notes u p ms h.2) (p m) refl
  where
    go : Owned notes u (filter p ms) → (b : Bool) → p m ≡ b → Owned notes u (filter p (m ∷ ms))
    go ih true e = rw e (h.0, h.1, ih)
    go ih false e = rw e ih

pub owned-snoc : (notes : List Note) (n : Note) → AllOwned notes → AllOwned (notes ++ n ∷ [])
unfolding AllOwned
owned-snoc notes n all u = rw (left-snoc u notes n) (go (n.unit == u) refl n.undoes refl)
  where
    more : Owned (notes ++ n ∷ []) u (left notes u)
    more = Owned-more notes n u (left notes u) (all u)

    go : (b : Bool) → (n.unit == u) ≡ b → (o : Option ℕ) → n.undoes ≡ o → Owned (notes ++ n ∷ []) u (left_by u (length notes) (left notes u) n)
    go false e o k = rw e more
    go true e None k =
        let same : n.unit ≡ u = grind (arith, nat_tests) in
        subst (Owned (notes ++ n ∷ []) u) (sym (left_by-add u (length notes) (left notes u) n same k))
        (simp length-append (omega arith), ap (λ z. z.unit) (get_or-append_seam notes n [] no_note) ∙ same, more)
    go true e (Some m) k =
        let same : n.unit ≡ u = grind (arith, nat_tests) in
        subst (Owned (notes ++ n ∷ []) u) (sym (left_by-take u (length notes) m (left notes u) n same k))
        (Owned-filter (notes ++ n ∷ []) u (λ x. not (x == m)) (left notes u) more)

pub change-owned : (w : World) (u : ℕ) (ch : Change) → AllOwned w.records → AllOwned (records_by w u ch)
change-owned w u Keeps s = s
change-owned w u (Adds t row) s = owned-snoc w.records _ s
change-owned w u (Writes t r row) s = owned-snoc w.records _ s
change-owned w u (Takes n) s = owned-snoc w.records _ s
change-owned w u Settles s = s

-- after each entry
agent-takes : (head : Head) (w : World) (c : Conn) (a : Act) → ByAgent head w c a → TakesLast w.records (unit_of w c) (change_of a)
agent-takes head w c (Undo n) al = al.1
agent-takes head w c _ al = tt

dispatcher-takes : (head : Head) (w : World) (a : Act) → ByDispatcher head w a → TakesLast w.records 0 (change_of a)
dispatcher-takes head w (Undo n) al = absurd al
dispatcher-takes head w _ al = tt

pub linked-after : (head : Head) (w : World) (e : Entry) → Allowed head w e → AllLinked w.records → AllLinked (after head w e).records
linked-after head w e al s = go e.who al.2
  where
    go : (who : Who) → By head w who e.act → AllLinked (records_by w (unit_of_maker w who) (change_of e.act))
    go Dispatcher by = change-linked w 0 (change_of e.act) (dispatcher-takes head w e.act by) s
    go (Agent c) by = change-linked w (unit_of w c) (change_of e.act) (agent-takes head w c e.act by.1) s

pub owned-after : (head : Head) (w : World) (e : Entry) → AllOwned w.records → AllOwned (after head w e).records
owned-after head w e s = change-owned w (unit_of_maker w e.who) (change_of e.act) s
