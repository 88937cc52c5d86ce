-- At the ready point of a connection that runs: the step of an index scan that is due may be made.
use Rattle.std.proofs.Common.{◌≡◌, ◌⊎◌, inl, inr, Bool, true, false, List, [], ◌∷◌, refl, sym, subst, Option, Some, None}
use Rattle.std.specs.List.{list_any}
use Rattle.iso_conduct.specs.Conduct.{Conduct, point, ready}
use Rattle.iso_conduct.specs.Points.{Point, due}
use Rattle.iso_conduct.specs.declared.moves.Move.{Move}
use Rattle.iso_history.proofs.phantoms.Ordered.{find-has, has-cases}
use Rattle.iso_history.proofs.phantoms.RangeOthers.{index-there}
use Rattle.iso_history.specs.After.{world}
use Rattle.iso_history.specs.Entries.{entries_of, found, key_name, meets_low}
use Rattle.iso_history.specs.Holds.{next_name}
use Rattle.iso_history.specs.Legal.{Ground}
use Rattle.iso_history.specs.Nexts.{may_next}
use Rattle.iso_history.specs.Orders.{has_pair}
use Rattle.iso_history.specs.Phases.{phase}
use Rattle.iso_history.specs.Requests.{is_backed, is_row_mode, is_there, may_ask, table_mode}
use Rattle.iso_history.specs.World.{World}
use Rattle.iso_history.specs.declared.entry.Entry.{Entry}
use Rattle.iso_modes.specs.declared.Mode.TheVariants.{Is, S}
use Rattle.iso_queue.specs.Locks.{is_covered}
use Rattle.iso_script.specs.Sound.{IsSound}
use Rattle.iso_script.specs.declared.script.Script.{Script}
use Rattle.iso_standing.proofs.DueParts.{next-needs}
use Rattle.iso_standing.proofs.TableLocks.{Held, held-suits, or-second}
use Rattle.iso_types.proofs.Values.{value-same}
use Rattle.iso_types.specs.Head.{table_of_index}
use Rattle.iso_types.specs.Ids.{pair_lt}
use Rattle.iso_types.specs.Value.{value_eq}
use Rattle.iso_types.specs.declared.desk.Phase.TheVariants.{Running}
use Rattle.iso_types.specs.declared.head.Head.{Head}
use Rattle.iso_types.specs.declared.head.Range.{Range}
use Rattle.iso_types.specs.declared.value.Conn.{Conn}
use Rattle.iso_types.specs.declared.value.IndexId.{IndexId}
use Rattle.iso_types.specs.declared.value.Name.TheVariants.{End, Key}
use Rattle.iso_types.specs.declared.value.Rid.{Rid}
use Rattle.iso_types.specs.declared.value.TableId.{TableId}
use Rattle.iso_types.specs.declared.value.Value.{Value}

-- a pair that is there has its key there
pub pair-key : (p : Value × Rid) (qs : List (Value × Rid)) → has_pair qs p ≡ true → list_any (λ q. value_eq q.0 p.0) qs ≡ true
pair-key p [] h = absurd (cc)
pair-key p (q ∷ qs) h = go (pair-key p qs) (has-cases q p qs h)
  where
    go : (has_pair qs p ≡ true → list_any (λ x. value_eq x.0 p.0) qs ≡ true) → (p ≡ q) ⊎ (has_pair qs p ≡ true)
        → list_any (λ x. value_eq x.0 p.0) (q ∷ qs) ≡ true
    go ih (inl e) = subst (λ (x : Value × Rid). list_any (λ y. value_eq y.0 x.0) (q ∷ qs) ≡ true) (sym e) (rw (value-same q.0) refl)
    go ih (inr h) = or-second (value_eq q.0 p.0) (list_any (λ x. value_eq x.0 p.0) qs) (ih h)

-- what a step finds is an entry of its index
pub found-pair : (w : World) (i : IndexId) (range : Range) (at : Option (Value × Rid)) (p : Value × Rid) → found w i range at ≡ Some p
    → has_pair (entries_of w i) p ≡ true
found-pair w i range None p e = (find-has (λ q. meets_low range.low q.0) (entries_of w i) p e).0
found-pair w i range (Some at) p e = (find-has (pair_lt at) (entries_of w i) p e).0

module _ (head : Head) (w : World) (c : Conn) (i : IndexId) (t : TableId) (on : table_of_index head i ≡ Some t) where
  -- the key or the end that a step locks is there
  next-there : (range : Range) (at : Option (Value × Rid)) → is_there head w (next_name w i range at) ≡ true
  next-there range at = go (found w i range at) refl
    where
      go : (o : Option (Value × Rid)) → found w i range at ≡ o → is_there head w (key_name i o) ≡ true
      go None e = index-there head i t on
      go (Some p) e = pair-key p (entries_of w i) (found-pair w i range at p e)

  -- it may be asked for in S where the table is held in IS
  key-may : (o : Option (Value × Rid)) → is_there head w (key_name i o) ≡ true → Held w c t Is → may_ask head w c (key_name i o) S ≡ true
  unfolding is_row_mode table_mode
  key-may None l h = let b : is_backed head w c (End i) S ≡ true = rw on h in rw (l, b) (or-second (is_covered head w.holds c (End i) S) true refl)
  key-may (Some p) l h =
      let b : is_backed head w c (Key i p.0) S ≡ true = rw on h in rw (l, b) (or-second (is_covered head w.holds c (Key i p.0) S) true refl)

  next-may : (range : Range) (at : Option (Value × Rid)) (guarded : Bool) → (guarded ≡ true → Held w c t Is)
      → may_next head w c i range at guarded ≡ true
  next-may range at true h = rw (index-there head i t on) (key-may (found w i range at) (next-there range at) (h refl))
  next-may range at false h = rw (index-there head i t on) refl

module _ (script : Script) (es : List Entry) (c : Conn) (p : Point) (sound : IsSound script) (g : Ground script.head es)
    (k : Conduct script.head script.lines es c)
    (is : ready script.head script.lines (world script.head es) c (point script.head script.lines es c) ≡ Some p)
    (runs : phase (world script.head es) c ≡ Running) where
  -- the index is the head's; where keys are locked, the key found or the end of the index may be asked for in S
  pub next-at : (i : IndexId) (range : Range) (at : Option (Value × Rid)) (guarded : Bool) → due p ≡ Move.Next i range at guarded
      → may_next script.head (world script.head es) c i range at guarded ≡ true
  next-at i range at guarded e =
      let n = next-needs script.head (Held (world script.head es) c) p.kept p.left i range at guarded (held-suits script es c p sound g k is runs).0 e in
      next-may script.head (world script.head es) c i n.0 n.1 range at guarded n.2
