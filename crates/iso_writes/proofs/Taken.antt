-- The holds after a write: what its entry places, its locks taken first and the holds settled then.
use Rattle.std.proofs.Common.{◌≡◌, ◌∙◌, Bool, true, false, List, [], ◌∷◌, length, map, refl, ap, sym, subst, Some, None, Option}
use Rattle.std.specs.List.{AllByRecursion, cons_option}
use Rattle.iso_history.specs.After.{after}
use Rattle.iso_history.specs.Holds.{inherited, inheriting, request_on}
use Rattle.iso_history.specs.Makers.{by_agent}
use Rattle.iso_history.specs.World.{World}
use Rattle.iso_history.specs.declared.entry.Act.TheVariants.{Insert, Update}
use Rattle.iso_locklist.proofs.SettledLists.{placed_then_settled}
use Rattle.iso_locklist.specs.Holding.{LocksAre, all_added}
use Rattle.iso_locklist.specs.Places.{Ledger}
use Rattle.iso_locklist.specs.declared.places.Asking.{Asking}
use Rattle.iso_modes.specs.declared.Mode.TheVariants.{S, X}
use Rattle.iso_modes.specs.declared.Term.TheVariants.{Kept}
use Rattle.iso_queue.specs.Locks.{Hold, added, all_placed, is_covered, placed, settled, without_briefs}
use Rattle.iso_types.specs.declared.head.Head.{Head}
use Rattle.iso_types.specs.declared.value.Conn.{Conn}
use Rattle.iso_types.specs.declared.value.Name.{Name}
use Rattle.iso_types.specs.declared.value.Name.TheVariants.{Row}
use Rattle.iso_types.specs.declared.value.Rid.{Rid}
use Rattle.iso_types.specs.declared.value.TableId.{TableId}
use Rattle.iso_types.specs.declared.value.Value.{Value}
use Rattle.iso_writes.proofs.Asked.{keys-placed, row-covers}
use Rattle.iso_writes.specs.Changing.{key_asks, row_ask}

-- all are to be kept
all-kept : (ns : List Name) → AllByRecursion (λ r. r.term ≡ Kept) (map (λ n. request_on n (S, Kept)) ns)
all-kept [] = tt
all-kept (n ∷ ns) = (refl, all-kept ns)

module _ (head : Head) (w : World) (c : Conn) (t : TableId) (row : List Value) where
  -- what is settled after what was added
  abbrev pub settled-after : List Hold → List Hold
  settled-after hs = without_briefs hs c (settled c None hs)

  -- what an update takes, it places
  update-added : all_placed head w.holds c (inheriting head w c t row) ≡ all_added w.holds c (key_asks head w c t row (length head.indexes) 0)
  update-added = keys-placed head w c t row (length head.indexes) 0 w.holds (λ n m. refl)

  pub update-holds : (r : Rid) (l : Ledger)
      → LocksAre (without_briefs (all_added w.holds c (cons_option None (key_asks head w c t row (length head.indexes) 0))) c
      (settled c None (all_added w.holds c (cons_option None (key_asks head w c t row (length head.indexes) 0))))) w.waits l
      → LocksAre (after head w (by_agent c (Update t r row))).holds w.waits l
  update-holds r l are =
      subst (λ (hs : List Hold). LocksAre hs w.waits l)
      (ap settled-after (sym update-added) ∙ placed_then_settled head c None (inheriting head w c t row) w.holds (all-kept (inherited head w c t row))) are

  -- and so an insertion
  insert-added : (r : Rid) → all_placed head w.holds c (request_on (Row t r) (X, Kept) ∷ inheriting head w c t row)
      ≡ all_added w.holds c (cons_option (row_ask head w c t r) (key_asks head w c t row (length head.indexes) 0))
  insert-added r = go (is_covered head w.holds c (Row t r) X) refl
    where
      asks : List Asking
      asks = key_asks head w c t row (length head.indexes) 0

      with-ask : (o : Option Asking) → row_ask head w c t r ≡ o
          → all_placed head w.holds c (request_on (Row t r) (X, Kept) ∷ inheriting head w c t row)
          ≡ all_added w.holds c (cons_option o (key_asks head w c t row (length head.indexes) 0))
          → all_placed head w.holds c (request_on (Row t r) (X, Kept) ∷ inheriting head w c t row)
          ≡ all_added w.holds c (cons_option (row_ask head w c t r) (key_asks head w c t row (length head.indexes) 0))
      with-ask o e h = h ∙ ap (λ (q : Option Asking). all_added w.holds c (cons_option q (key_asks head w c t row (length head.indexes) 0))) (sym e)

      placed-none : is_covered head w.holds c (Row t r) X ≡ true → placed head w.holds c (request_on (Row t r) (X, Kept)) ≡ w.holds
      placed-none e = rw e refl

      placed-one : is_covered head w.holds c (Row t r) X ≡ false
          → placed head w.holds c (request_on (Row t r) (X, Kept)) ≡ added w.holds c (request_on (Row t r) (X, Kept))
      placed-one e = rw e refl

      go : (b : Bool) → is_covered head w.holds c (Row t r) X ≡ b
          → all_placed head w.holds c (request_on (Row t r) (X, Kept) ∷ inheriting head w c t row)
          ≡ all_added w.holds c (cons_option (row_ask head w c t r) (key_asks head w c t row (length head.indexes) 0))
      go true e =
          with-ask None (rw e refl)
          (ap (λ (hs : List Hold). all_placed head hs c (inheriting head w c t row)) (placed-none e) ∙ update-added)
      go false e =
          with-ask (Some (record { name = Row t r; mode = X })) (rw e refl)
          (ap (λ (hs : List Hold). all_placed head hs c (inheriting head w c t row)) (placed-one e)
          ∙ keys-placed head w c t row (length head.indexes) 0 (added w.holds c (request_on (Row t r) (X, Kept))) (row-covers head w c t r))

  pub insert-holds : (r : Rid) (l : Ledger)
      → LocksAre (without_briefs (all_added w.holds c (cons_option (row_ask head w c t r) (key_asks head w c t row (length head.indexes) 0))) c
      (settled c None (all_added w.holds c (cons_option (row_ask head w c t r) (key_asks head w c t row (length head.indexes) 0))))) w.waits l
      → LocksAre (after head w (by_agent c (Insert t r row))).holds w.waits l
  insert-holds r l are =
      subst (λ (hs : List Hold). LocksAre hs w.waits l)
      (ap settled-after (sym (insert-added r))
      ∙ placed_then_settled head c None (request_on (Row t r) (X, Kept) ∷ inheriting head w c t row) w.holds (refl, all-kept (inherited head w c t row))) are
