-- What is sought among the doubtful pairs of an index is found as among all of them.
use Rattle.std.proofs.Common.{◌≡◌, ◌∙◌, inl, inr, Bool, true, false, not, ◌&&◌, List, [], ◌∷◌, find, is_some, refl, ap, sym, slice_get, Some, Option}
use Rattle.std.specs.Option.{option_map}
use Rattle.std.proofs.lemmas.Bool.{both_ways}
use Rattle.iso_ends.proofs.DoubtSets.{found-same}
use Rattle.iso_ends.proofs.DoubtsAlong.{calm-fresh}
use Rattle.iso_ends.proofs.HeldAfter.{held-used}
use Rattle.iso_ends.proofs.PurgeWalks.{pairs-ordered}
use Rattle.iso_ends.specs.Doubts.{IsKnown, Known}
use Rattle.iso_ends.specs.Purges.{is_stale, is_stale_at}
use Rattle.iso_history.specs.After.{world}
use Rattle.iso_history.specs.Entries.{entries_of, is_in_use, is_purgeable, is_purgeable_of, row_has}
use Rattle.iso_history.specs.Orders.{has_pair}
use Rattle.iso_history.specs.Versions.{committed, is_pending, versions}
use Rattle.iso_history.specs.World.{World}
use Rattle.iso_state.specs.Stands.{Content, Stands}
use Rattle.iso_types.specs.Head.{table_of_index}
use Rattle.iso_types.specs.declared.head.IndexDef.{IndexDef}
use Rattle.iso_types.specs.declared.value.IndexId.{IndexId}
use Rattle.iso_types.specs.declared.value.Name.TheVariants.{Key}
use Rattle.iso_types.specs.declared.value.Rid.{Rid}
use Rattle.iso_types.specs.declared.value.Value.{Value}

two : (a b c : Bool) → (a && b && c) ≡ true → (a && b) ≡ true
two true true c z = refl
two true false c z = absurd (both_ways false refl z)
two false b c z = absurd (both_ways false refl z)

last : (a b c : Bool) → (a && b && not c) ≡ true → c ≡ false
last a b false z = refl
last true true true z = absurd (both_ways false refl z)
last true false true z = absurd (both_ways false refl z)
last false b true z = absurd (both_ways false refl z)

module _ (p : Content) (s : Stands p) (i : IndexId) (d : IndexDef) (here : slice_get p.head.indexes i.0 ≡ Some d) (x : Known)
    (known : IsKnown p.head (world p.head p.history) i x) where
  abbrev w : World
  w = world p.head p.history

  on : table_of_index p.head i ≡ Some d.table
  on = ap (option_map (λ (y : IndexDef). y.table)) here

  -- each pair that passes a test which only stale ones pass, and which no parked one does, is doubtful
  known-find : (t : Value × Rid → Bool) → ((q : Value × Rid) → t q ≡ true → is_stale p.head i q.0 (versions w d.table q.1) ≡ true)
      → ((q : Value × Rid) → t q ≡ true → has_pair x.parked q ≡ true → ⊥) → find t x.pairs ≡ find t (entries_of w i)
  known-find t stale stays = found-same t (entries_of w i) x.pairs (pairs-ordered p s i (entries_of w i) refl) known.ordered
      (λ q h e. elim (known.all q h) [
        | inl a ↦ a
        | inr (inl a) ↦ absurd (both_ways (is_stale p.head i q.0 (versions w d.table q.1))
            (calm-fresh p.head i q.0 (versions w d.table q.1) (known.calm q.1 q.0 d.table a on)) (stale q e))
        | inr (inr a) ↦ absurd (stays q e a)
      ])
      known.there

  parts : (q : Value × Rid) → is_purgeable p.head w i q ≡ true → is_purgeable_of p.head w i q d.table ≡ true
  parts q e = rw on at e

  stale-part : (q : Value × Rid) → is_purgeable p.head w i q ≡ true → is_stale p.head i q.0 (versions w d.table q.1) ≡ true
  stale-part q e =
      two (not (is_pending (versions w d.table q.1))) (not (row_has p.head i q.0 (committed (versions w d.table q.1)))) (not (is_in_use w (Key i q.0)))
      (parts q e)

  free-part : (q : Value × Rid) → is_purgeable p.head w i q ≡ true → is_in_use w (Key i q.0) ≡ false
  free-part q e =
      last (not (is_pending (versions w d.table q.1))) (not (row_has p.head i q.0 (committed (versions w d.table q.1)))) (is_in_use w (Key i q.0))
      (parts q e)

  pub least-known : find (is_purgeable p.head w i) x.pairs ≡ find (is_purgeable p.head w i) (entries_of w i)
  least-known = known-find (is_purgeable p.head w i) stale-part
      (λ q e h. both_ways (is_in_use w (Key i q.0)) (free-part q e) (held-used w x.by (Key i q.0) (known.parked q h).1))

  -- where no pair is parked
  pub stale-known : x.parked ≡ [] → find (is_stale_at p.head w i) x.pairs ≡ find (is_stale_at p.head w i) (entries_of w i)
  stale-known none = known-find (is_stale_at p.head w i) (λ q e. rw on at e)
      (λ q e h. both_ways (has_pair x.parked q) (ap (λ (ps : List (Value × Rid)). has_pair ps q) none) h)

-- a list in which nothing stands first has nothing
pub first-none : (ps : List (Value × Rid)) (o : Option (Value × Rid)) → o ≡ find (λ _. true) ps → is_some o ≡ false → ps ≡ []
first-none [] o is none = refl
first-none (p ∷ ps) o is none = absurd (both_ways true (ap is_some (sym is) ∙ none) refl)
