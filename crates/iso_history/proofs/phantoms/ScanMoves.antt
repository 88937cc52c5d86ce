-- A guarded Next carries what a scan keeps on to where it stands then.
use Rattle.std.proofs.Common.{◌≡◌, Bool, true, false, not, List, refl, sym, ◌∙◌, subst, ◌⊎◌, inl, inr, Some, None, Option}
use Rattle.std.specs.List.{list_all}
use Rattle.std.specs.Prelude.{find}
use Rattle.iso_history.proofs.phantoms.Tests.{both, join, or-right, turned}
use Rattle.iso_history.proofs.phantoms.Dues.{raised-kept}
use Rattle.iso_history.proofs.phantoms.Finds.{all-map}
use Rattle.iso_history.proofs.phantoms.FitHolds.{fits-settled_one, fits_hold, s-guard}
use Rattle.iso_history.proofs.phantoms.Inherited.{covered-settled, held-fits}
use Rattle.iso_history.proofs.phantoms.KeptHolds.{kept-briefs, kept_as, made-added}
use Rattle.iso_history.proofs.phantoms.ModeLaws.{guard-joined, is_guard}
use Rattle.iso_history.proofs.phantoms.Moves.{end-all, end-limit, moved-at, passed-at, passed-past, past-all, past-limit}
use Rattle.iso_history.proofs.phantoms.NextLaws.{stands-at, stands-past}
use Rattle.iso_history.proofs.phantoms.Ordered.{find-none}
use Rattle.iso_history.proofs.phantoms.OwnLocks.{IsKeyName, k_guard, k_guard-kept, own-covered}
use Rattle.iso_history.proofs.phantoms.Pairs.{key-lt, lt-key, pair-total}
use Rattle.iso_history.proofs.phantoms.Ranges.{at_found, beyond, high-down, low-up}
use Rattle.iso_history.proofs.phantoms.Standing.{end_guarded, guards-of, kept-by, key_guarded, name-found}
use Rattle.iso_history.specs.Entries.{entries_of, found, is_in_range, key_name, meets_high, meets_low, stand_of}
use Rattle.iso_history.specs.Facts.{IsSound}
use Rattle.iso_history.specs.Gaps.{IsFit, IsRangeKept, fits_name, guards_name, is_slot_kept, keeps_guard}
use Rattle.iso_history.specs.Orders.{IsOrdered, has_pair}
use Rattle.iso_history.specs.Holds.{holds_by_agent, next_name, request_on, spared}
use Rattle.iso_history.specs.Legal.{ByAgent}
use Rattle.iso_history.specs.World.{World}
use Rattle.iso_history.specs.declared.entry.Act.{Act}
use Rattle.iso_history.specs.declared.entry.Act.TheVariants.{Next}
use Rattle.iso_history.specs.declared.entry.Stand.TheVariants.{At, Past}
use Rattle.iso_modes.specs.Modes.{joined}
use Rattle.iso_modes.specs.Terms.{is_kept}
use Rattle.iso_modes.specs.declared.Mode.TheVariants.{S}
use Rattle.iso_modes.specs.declared.Term.TheVariants.{Kept}
use Rattle.iso_queue.specs.Locks.{Hold, is_covered, is_covered_on, placed, raised, settled, settled_one, without_briefs}
use Rattle.iso_types.specs.Head.{table_of, table_of_index}
use Rattle.iso_types.specs.Ids.{pair_lt}
use Rattle.iso_types.specs.Value.{value_lt}
use Rattle.iso_types.specs.declared.head.Head.{Head}
use Rattle.iso_types.specs.declared.head.Range.{Range}
use Rattle.iso_types.specs.declared.value.Conn.{Conn}
use Rattle.iso_types.specs.declared.value.IndexId.{IndexId}
use Rattle.iso_types.specs.declared.value.Name.{Name}
use Rattle.iso_types.specs.declared.value.Name.TheVariants.{End, Key, Row, Table}
use Rattle.iso_types.specs.declared.value.Rid.{Rid}
use Rattle.iso_types.specs.declared.value.TableId.{TableId}
use Rattle.iso_types.specs.declared.value.Value.{Value}

key-name-is : (i : IndexId) (o : Option (Value × Rid)) → IsKeyName (key_name i o)
key-name-is i None = tt
key-name-is i (Some p) = tt

key-name-table : (head : Head) (i : IndexId) (o : Option (Value × Rid)) → table_of head (key_name i o) ≡ table_of_index head i
key-name-table head i None = refl
key-name-table head i (Some p) = refl

key-fit-mode : (n : Name) (h : Hold) → IsKeyName n → fits_name n h.mode ≡ true → is_guard h.mode ≡ true
key-fit-mode (Key i v) h k f = f
key-fit-mode (End i) h k f = f
key-fit-mode (Table t) h k f = absurd k
key-fit-mode (Row t r) h k f = absurd k

-- the name on which a Next asks S is guarded after it
module _ (head : Head) (w : World) (sound : IsSound head w) (fit : IsFit w) (c : Conn) (i : IndexId) (t : TableId) (on : table_of_index head i ≡ Some t)
    (n : Name) (kn : IsKeyName n)
    (nt : table_of head n ≡ Some t) (before : List Hold) where
  guard-placed : (hs : List Hold) → list_all fits_hold hs ≡ true → is_covered_on hs c S t ≡ false
      → keeps_guard (without_briefs before c (placed head hs c (request_on n (S, Kept)))) c n ≡ true
  guard-placed hs a bare =
      kept-briefs head k_guard k_guard-kept c n before (placed head hs c (request_on n (S, Kept))) first
    where
      first : kept_as k_guard (placed head hs c (request_on n (S, Kept))) c n ≡ true
      first = let z : is_covered head hs c n S ≡ false = rw nt bare in
          rw z (made-added k_guard c n (request_on n (S, Kept)) hs refl (
            s-guard,
            λ h e. join (is_kept (raised S Kept h).term) (is_guard (joined h.mode S)) (raised-kept S h)
                (guard-joined h.mode S (key-fit-mode n h kn (held-fits c n hs h a e)) s-guard),
          ))

module _ (head : Head) (w : World) (sound : IsSound head w) (fit : IsFit w) (c : Conn) (i : IndexId) (t : TableId) (on : table_of_index head i ≡ Some t)
    (range : Range) (at : Option (Value × Rid)) where
  abbrev asked : Name
  asked = next_name w i range at

  asked-table : table_of head asked ≡ Some t
  asked-table = key-name-table head i (found w i range at) ∙ on

  -- the holds after a Next that was granted
  abbrev next_holds : Act → List Hold
  next_holds a = without_briefs w.holds c (placed head (settled c (spared a (w.last c)) w.holds) c (request_on asked (S, Kept)))

  next-kept : (a : Act) → is_covered_on w.holds c S t ≡ false → keeps_guard (next_holds a) c asked ≡ true
  next-kept a bare = guard-placed head w sound fit c i t on asked (key-name-is i (found w i range at)) asked-table w.holds
      (settled c (spared a (w.last c)) w.holds)
      (all-map fits_hold (settled_one c (spared a (w.last c))) (fits-settled_one c (spared a (w.last c))) w.holds fit.holds)
      (covered-settled c (spared a (w.last c)) w.holds S t ∙ bare)

  -- its name is guarded
  pub next-guards_at : (v : Value) (r : Rid) → ByAgent head w c (Next i range at true (At v r))
      → guards_name (holds_by_agent head w c (Next i range at true (At v r))) c t asked ≡ true
  next-guards_at v r al = go (is_covered_on w.holds c S t) refl
    where
      a : Act
      a = Next i range at true (At v r)

      go : (b : Bool) → is_covered_on w.holds c S t ≡ b → guards_name (holds_by_agent head w c (Next i range at true (At v r))) c t asked ≡ true
      go true e = rw (own-covered head w sound fit c (Next i range at true (At v r)) al refl refl t e) refl
      go false e = or-right (is_covered_on (next_holds (Next i range at true (At v r))) c S t) _ (next-kept (Next i range at true (At v r)) e)

  pub next-guards_past : ByAgent head w c (Next i range at true Past) → guards_name (holds_by_agent head w c (Next i range at true Past)) c t asked ≡ true
  next-guards_past al = go (is_covered_on w.holds c S t) refl
    where
      go : (b : Bool) → is_covered_on w.holds c S t ≡ b → guards_name (holds_by_agent head w c (Next i range at true Past)) c t asked ≡ true
      go true e = rw (own-covered head w sound fit c (Next i range at true Past) al refl refl t e) refl
      go false e = or-right (is_covered_on (next_holds (Next i range at true Past)) c S t) _ (next-kept (Next i range at true Past) e)

-- a step in a world where the name of the pair found is guarded; t tests what comes after the position
module _ (x : World) (c : Conn) (i : IndexId) (u : TableId) (range : Range) (o : IsOrdered (entries_of x i)) (t : Value × Rid → Bool)
    (old : (p : Value × Rid) → has_pair (entries_of x i) p ≡ true → is_in_range range p.0 ≡ true → (t p ≡ true) ⊎ (key_guarded x.holds c u i p.0 ≡ true))
    (low : (p : Value × Rid) → has_pair (entries_of x i) p ≡ true → t p ≡ true → meets_low range.low p.0 ≡ true)
    (far : (p : Value × Rid) → has_pair (entries_of x i) p ≡ true → beyond range p ≡ true → t p ≡ true)
    (behind : (p : Value × Rid) → has_pair (entries_of x i) p ≡ true → is_in_range range p.0 ≡ true → t p ≡ false → is_slot_kept x c u p.1 ≡ true) where
  abbrev pairs : List (Value × Rid)
  pairs = entries_of x i

  abbrev keys : Value → Bool
  keys = key_guarded x.holds c u i

  abbrev ends : Bool
  ends = end_guarded x.holds c u i

  move-at : (v : Value) (r : Rid) → find t pairs ≡ Some (v, r) → is_in_range range v ≡ true → keys v ≡ true → IsRangeKept x c i u range (At v r)
  move-at v r f iv k = kept-by x c i u range (At v r) iv (moved-at keys ends range pairs o t old low far (v, r) f k, k)
      (λ p h e. let b = both (is_in_range range p.0) (pair_lt p (v, r)) e in behind p h b.0 (passed-at keys ends range pairs o t old low far (v, r) p f h b.1))

  move-past : (q : Value × Rid) → find t pairs ≡ Some q → is_in_range range q.0 ≡ false → keys q.0 ≡ true → IsRangeKept x c i u range Past
  move-past q f out k = kept-by x c i u range Past refl
      (past-all keys ends range pairs o t old low far q f out, past-limit keys ends range pairs o t old low far q f out k)
      (λ p h e. let b = both (is_in_range range p.0) true e in behind p h b.0 (passed-past keys ends range pairs o t old low far q p f out h b.0))

  move-end : find t pairs ≡ None → ends ≡ true → IsRangeKept x c i u range Past
  move-end f k = kept-by x c i u range Past refl (end-all keys ends range pairs o t old low far f, end-limit keys ends range pairs o t old low far f k)
      (λ p h e. behind p h (both (is_in_range range p.0) true e).0 (find-none t pairs p f h))

  -- to where the step stands
  pub move-to-at : (v : Value) (r : Rid) → stand_of range (find t pairs) ≡ At v r → at_found keys ends (find t pairs) ≡ true
      → IsRangeKept x c i u range (At v r)
  move-to-at v r s k = let y = stands-at range (find t pairs) v r s in move-at v r y.0 y.1 (rw y.0 at k)

  -- or to past the range
  pub move-to-past : stand_of range (find t pairs) ≡ Past → at_found keys ends (find t pairs) ≡ true → IsRangeKept x c i u range Past
  move-to-past s k = go (find t pairs) refl s k
    where
      go : (f : Option (Value × Rid)) → find t pairs ≡ f → stand_of range f ≡ Past → at_found keys ends f ≡ true → IsRangeKept x c i u range Past
      go None f s k = move-end f k
      go (Some q) f s k = move-past q f (stands-past range q s) k

-- from the beginning of the range
module _ (x : World) (c : Conn) (i : IndexId) (u : TableId) (range : Range) (o : IsOrdered (entries_of x i)) where
  abbrev from_low : Value × Rid → Bool
  from_low p = meets_low range.low p.0

  first-old : (p : Value × Rid) → has_pair (entries_of x i) p ≡ true → is_in_range range p.0 ≡ true → (from_low p ≡ true)
      ⊎ (key_guarded x.holds c u i p.0 ≡ true)
  first-old p h e = inl (both (meets_low range.low p.0) (meets_high range.high p.0) e).0

  first-far : (p : Value × Rid) → has_pair (entries_of x i) p ≡ true → beyond range p ≡ true → from_low p ≡ true
  first-far p h e = (both (meets_low range.low p.0) (not (meets_high range.high p.0)) e).0

  first-behind : (p : Value × Rid) → has_pair (entries_of x i) p ≡ true → is_in_range range p.0 ≡ true → from_low p ≡ false → is_slot_kept x c u p.1 ≡ true
  first-behind p h e f = let z : from_low p ≡ true = (both (meets_low range.low p.0) (meets_high range.high p.0) e).0 in absurd (cc)

  -- the first step, to a pair
  pub first-at : (v : Value) (r : Rid) → stand_of range (found x i range None) ≡ At v r → guards_name x.holds c u (key_name i (found x i range None)) ≡ true
      → IsRangeKept x c i u range (At v r)
  first-at v r s k = move-to-at x c i u range o from_low first-old (λ p h e. e) first-far first-behind v r s
      (sym (name-found x.holds c u i (found x i range None)) ∙ k)

  -- or to past the range
  pub first-past : stand_of range (found x i range None) ≡ Past → guards_name x.holds c u (key_name i (found x i range None)) ≡ true
      → IsRangeKept x c i u range Past
  first-past s k = move-to-past x c i u range o from_low first-old (λ p h e. e) first-far first-behind s
      (sym (name-found x.holds c u i (found x i range None)) ∙ k)

-- from a pair whose slot is kept
module _ (x : World) (c : Conn) (i : IndexId) (u : TableId) (range : Range) (o : IsOrdered (entries_of x i)) (at : Value × Rid)
    (kept : IsRangeKept x c i u range (At at.0 at.1))
    (looked : is_slot_kept x c u at.1 ≡ true) where
  later-old : (p : Value × Rid) → has_pair (entries_of x i) p ≡ true → is_in_range range p.0 ≡ true → (pair_lt at p ≡ true)
      ⊎ (key_guarded x.holds c u i p.0 ≡ true)
  later-old p h e = go (value_lt at.0 p.0) refl
    where
      go : (b : Bool) → value_lt at.0 p.0 ≡ b → (pair_lt at p ≡ true) ⊎ (key_guarded x.holds c u i p.0 ≡ true)
      go true f = inl (key-lt at p f)
      go false f = inr ((guards-of x c i u range (At at.0 at.1) kept).0 p h e f)

  later-low : (p : Value × Rid) → has_pair (entries_of x i) p ≡ true → pair_lt at p ≡ true → meets_low range.low p.0 ≡ true
  later-low p h e = low-up range.low at.0 p.0 (both (meets_low range.low at.0) (meets_high range.high at.0) kept.inside).0 (lt-key at p e)

  later-far : (p : Value × Rid) → has_pair (entries_of x i) p ≡ true → beyond range p ≡ true → pair_lt at p ≡ true
  later-far p h e = go (value_lt at.0 p.0) refl
    where
      go : (b : Bool) → value_lt at.0 p.0 ≡ b → pair_lt at p ≡ true
      go true f = key-lt at p f
      go false f =
          let z : meets_high range.high p.0 ≡ true = high-down range.high p.0 at.0
          (both (meets_low range.low at.0) (meets_high range.high at.0) kept.inside).1 f in
          let y : meets_high range.high p.0 ≡ false = turned (meets_high range.high p.0)
          (both (meets_low range.low p.0) (not (meets_high range.high p.0)) e).1 in absurd (cc)

  later-behind : (p : Value × Rid) → has_pair (entries_of x i) p ≡ true → is_in_range range p.0 ≡ true → pair_lt at p ≡ false → is_slot_kept x c u p.1 ≡ true
  later-behind p h e f = go (pair_lt p at) refl
    where
      go : (b : Bool) → pair_lt p at ≡ b → is_slot_kept x c u p.1 ≡ true
      go true g = kept.looked p h (join (is_in_range range p.0) (pair_lt p at) e g)
      go false g = subst (λ (z : Value × Rid). is_slot_kept x c u z.1 ≡ true) (pair-total at p f g) looked

  -- a later step, to a pair
  pub later-at : (v : Value) (r : Rid) → stand_of range (found x i range (Some at)) ≡ At v r
      → guards_name x.holds c u (key_name i (found x i range (Some at))) ≡ true
      → IsRangeKept x c i u range (At v r)
  later-at v r s k = move-to-at x c i u range o (pair_lt at) later-old later-low later-far later-behind v r s
      (sym (name-found x.holds c u i (found x i range (Some at))) ∙ k)

  -- or to past the range
  pub later-past : stand_of range (found x i range (Some at)) ≡ Past → guards_name x.holds c u (key_name i (found x i range (Some at))) ≡ true
      → IsRangeKept x c i u range Past
  later-past s k = move-to-past x c i u range o (pair_lt at) later-old later-low later-far later-behind s
      (sym (name-found x.holds c u i (found x i range (Some at))) ∙ k)
