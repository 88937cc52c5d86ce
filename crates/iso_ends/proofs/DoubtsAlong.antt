-- What is known of an index's pairs goes on along a history, entry by entry.
use Rattle.std.proofs.Common.{◌≡◌, ◌<◌, ◌∙◌, ◌⊎◌, inl, inr, ℕ, zero, suc, ◌+◌, Bool, true, false, not, ◌&&◌, List, [], ◌∷◌, ◌++◌, filter, length, take, map, refl, ap, sym, subst, arith, slice_get, Some, None, Option, if◌then◌else◌, get_or}
use Rattle.std.specs.List.{list_any, range_with_len}
use Rattle.std.specs.Option.{option_map, option_map_or}
use Rattle.std.specs.Prelude.{◌≤◌, ◌==◌, slice_index_or}
use Rattle.std.proofs.Math.Seq.{take-length}
use Rattle.std.proofs.lemmas.Bool.{and_parts, both_ways, eqb-false, eqb-true}
use Rattle.std.proofs.lemmas.Cmp.{nat_eq_equiv}
use Rattle.std.proofs.lemmas.List.{length-append, take-append-le, take_more}
use Rattle.iso_ends.proofs.DoubtSets.{rel-by, rel-kept, rel-knows, rel-ordered, rel-parked, rel-there}
use Rattle.iso_ends.proofs.HeldAfter.{held-after, held-used}
use Rattle.iso_ends.specs.Doubts.{AreParked, FreesNone, IsFreed, IsHeld, IsKnown, Known, WasKnown, changed, kept_at, key_by, known_by, released}
use Rattle.iso_ends.specs.Purges.{is_calm}
use Rattle.iso_history.proofs.Snoc.{world-snoc}
use Rattle.iso_history.proofs.facts.Guarded.{Ground-take}
use Rattle.iso_history.proofs.locks.Lists.{any-filter, at-set_here}
use Rattle.iso_history.proofs.locks.Same.{the_index}
use Rattle.iso_history.proofs.phantoms.EntriesAfter.{pairs-gained, pairs-lost, purged}
use Rattle.iso_history.proofs.phantoms.Names.{index_is}
use Rattle.iso_history.proofs.phantoms.Ordered.{has-with, has-without, ordered-with, ordered-without, with-has, with-new, without-has}
use Rattle.iso_history.proofs.phantoms.Pairs.{pair_is}
use Rattle.iso_history.proofs.phantoms.RangeOthers.{index-table, index-there}
use Rattle.iso_history.proofs.phantoms.Tests.{either}
use Rattle.iso_history.proofs.phantoms.VersionsAfter.{rid_at, versions-adds, versions-settles, versions-takes, versions-writes, versions_in}
use Rattle.iso_history.proofs.whole.Sound.{sound-at}
use Rattle.iso_history.specs.After.{after, start, world, world_from}
use Rattle.iso_history.specs.Entries.{entries_by, entries_of, gained, is_in_use, is_purgeable, is_purgeable_of, least_purgeable, row_has, with_pair, without_pair}
use Rattle.iso_history.specs.Entries.Pairing.{Gains}
use Rattle.iso_history.specs.Legal.{Allowed, By, ByAgent, ByDispatcher, Ground, GroundFrom}
use Rattle.iso_history.specs.Orders.{has_pair}
use Rattle.iso_history.specs.Units.{unit_of_maker}
use Rattle.iso_history.specs.Versions.{committed, is_pending, settled_by, tables_by, taken_off, versions}
use Rattle.iso_history.specs.Versions.Change.{Writes}
use Rattle.iso_history.specs.World.{Version, World}
use Rattle.iso_history.specs.declared.entry.Act.{Act}
use Rattle.iso_history.specs.declared.entry.Act.TheVariants.{Commit, Delete, Insert, Purge, Undo, Update}
use Rattle.iso_history.specs.declared.entry.Entry.{Entry}
use Rattle.iso_history.specs.declared.entry.Who.{Who}
use Rattle.iso_history.specs.declared.entry.Who.TheVariants.{Agent, Dispatcher}
use Rattle.iso_state.specs.Stands.{Content, Stands}
use Rattle.iso_types.specs.Head.{indexes, indexes_of, key_in, table_of_index}
use Rattle.iso_types.specs.Ids.{index_eq, pair_eq, table_eq}
use Rattle.iso_types.specs.declared.edges.Edges.{Edges}
use Rattle.iso_types.specs.declared.head.Head.{Head}
use Rattle.iso_types.specs.declared.head.IndexDef.{IndexDef}
use Rattle.iso_types.specs.declared.value.Conn.{Conn}
use Rattle.iso_types.specs.declared.value.IndexId.{IndexId}
use Rattle.iso_types.specs.declared.value.Name.TheVariants.{Key}
use Rattle.iso_types.specs.declared.value.Rid.{Rid}
use Rattle.iso_types.specs.declared.value.TableId.{TableId}
use Rattle.iso_types.specs.declared.value.Value.{Value}

-- ---- a slot where nothing is pending

kept-first : {A : Type 0} (t : A → Bool) (x : A) (xs : List A) → t x ≡ true → filter t (x ∷ xs) ≡ x ∷ filter t xs
kept-first t x xs e = rw e refl

settled-idle : (u : ℕ) (vs : List Version) → is_pending vs ≡ false → settled_by u vs ≡ vs
settled-idle u [] e = refl
settled-idle u (v ∷ vs) e =
    let k = either v.pending (is_pending vs) e in
    let off : (v.pending && (v.unit == u)) ≡ false = ap (λ (b : Bool). b && (v.unit == u)) k.0 in
    ap (λ (b : Bool). if b then record v { pending = false } ∷ [] else v ∷ settled_by u vs) off
    ∙ ap (λ (zs : List Version). v ∷ zs) (settled-idle u vs k.1)

taken-idle : (n : ℕ) (vs : List Version) → is_pending vs ≡ false → taken_off n vs ≡ vs
taken-idle n [] e = refl
taken-idle n (v ∷ vs) e =
    let k = either v.pending (is_pending vs) e in
    let stays : not (v.pending && (v.number == n)) ≡ true = ap (λ (b : Bool). not (b && (v.number == n))) k.0 in
    kept-first (λ (x : Version). not (x.pending && (x.number == n))) v vs stays ∙ ap (λ (zs : List Version). v ∷ zs) (taken-idle n vs k.1)

not-off : (b : Bool) → not b ≡ true → b ≡ false
not-off false e = refl
not-off true e = absurd (both_ways false refl e)

pub calm-idle : (head : Head) (i : IndexId) (k : Value) (vs : List Version) → is_calm head i k vs ≡ true → is_pending vs ≡ false
calm-idle head i k vs e = not-off (is_pending vs) (and_parts (not (is_pending vs)) (row_has head i k (committed vs)) e).0

-- a calm pair is not stale
pub calm-fresh : (head : Head) (i : IndexId) (k : Value) (vs : List Version) → is_calm head i k vs ≡ true
    → (not (is_pending vs) && not (row_has head i k (committed vs))) ≡ false
calm-fresh head i k vs e =
    let c = and_parts (not (is_pending vs)) (row_has head i k (committed vs)) e in
    let idle = c.0 in
    let has = c.1 in
    rw (idle, has) refl

-- ---- an index is among its table's

found-in : (i : IndexId) (n a : ℕ) → a ≤ i.0 → i.0 < a + n → list_any (index_eq i) (map (λ k. the_index k) (range_with_len a n)) ≡ true
found-in i zero a le lt = absurd (omega (arith, le, lt))
found-in i (suc n) a le lt = go (index_eq i (the_index a)) refl (found-in i n (a + 1))
  where
    go : (b : Bool) → index_eq i (the_index a) ≡ b
        → (a + 1 ≤ i.0 → i.0 < a + 1 + n → list_any (index_eq i) (map (λ k. the_index k) (range_with_len (a + 1) n)) ≡ true)
        → list_any (index_eq i) (map (λ k. the_index k) (range_with_len a (suc n))) ≡ true
    go true k ih = rw k refl
    go false k ih = let ne = eqb-false i.0 a k in rw k (ih (omega (arith, le, ne)) (omega (arith, lt)))

got-within : {A : Type 0} (xs : List A) (k : ℕ) (x : A) → slice_get xs k ≡ Some x → k < length xs
got-within [] k x e = cc
got-within (y ∷ ys) zero x e = omega arith
got-within (y ∷ ys) (suc k) x e = let lt = got-within ys k x e in omega (arith, lt)

module _ (head : Head) (w : World) (i : IndexId) (d : IndexDef) (here : slice_get head.indexes i.0 ≡ Some d) where
  on : table_of_index head i ≡ Some d.table
  on = ap (option_map (λ (x : IndexDef). x.table)) here

  among : list_any (index_eq i) (indexes_of head d.table) ≡ true
  among =
      let lt : i.0 < length head.indexes = got-within head.indexes i.0 d here in
      any-filter (index_eq i) (λ j. option_map_or (λ u. table_eq u d.table) (table_of_index head j) false)
      (λ j e. subst (λ (z : IndexId). option_map_or (λ u. table_eq u d.table) (table_of_index head z) false ≡ true) (index_is i j e) own)
      (indexes head) (found-in i (length head.indexes) 0 (omega arith) (omega (arith, lt)))
    where
      own : option_map_or (λ u. table_eq u d.table) (table_of_index head i) false ≡ true
      own = ap (λ (o : Option TableId). option_map_or (λ u. table_eq u d.table) o false) on ∙ nat_eq_equiv.refl d.table.0

  key-is : (row : List Value) → key_in head i row ≡ key_by d row
  key-is row = rw here refl

  the-table : (t : TableId) → table_of_index head i ≡ Some t → t ≡ d.table
  the-table t e = let both : Some t ≡ Some d.table = sym e ∙ on in cc

  -- ---- one entry more

  module _ (x : Known) (known : IsKnown head w i x) (v : World) (rest : (k : Value) → IsHeld w x.by (Key i k) → IsHeld v x.by (Key i k)) where
    -- nothing comes and nothing goes
    known-same : entries_of v i ≡ entries_of w i
        → ((s : Rid) (t : TableId) (k : Value) → table_of_index head i ≡ Some t → is_calm head i k (versions w t s) ≡ true
        → is_calm head i k (versions v t s) ≡ true) → IsKnown head v i x
    known-same same stays = record {
      ordered = known.ordered;
      all = λ p h. known.all p (subst (λ (ps : List (Value × Rid)). has_pair ps p ≡ true) same h);
      there = λ p h. back p (known.there p h);
      kept = λ r k h. back (k, r) (known.kept r k h);
      calm = λ r k t h e. stays r t k e (known.calm r k t h e);
      parked = λ p h. (let k = known.parked p h in (back p k.0, rest p.0 k.1));
    }
      where
        back : (p : Value × Rid) → has_pair (entries_of w i) p ≡ true → has_pair (entries_of v i) p ≡ true
        back p h = subst (λ (ps : List (Value × Rid)). has_pair ps p ≡ true) (sym same) h

    -- the slot of a rid changes
    module _ (r : Rid) (grows : (p : Value × Rid) → has_pair (entries_of w i) p ≡ true → has_pair (entries_of v i) p ≡ true)
        (others : (s : Rid) → (s ≡ r → ⊥) → versions v d.table s ≡ versions w d.table s) where
      rid-cases : (s : Rid) → (s.0 ≡ r.0 → ⊥) ⊎ (s ≡ r)
      rid-cases s = go (s.0 == r.0) refl
        where
          go : (b : Bool) → (s.0 == r.0) ≡ b → (s.0 ≡ r.0 → ⊥) ⊎ (s ≡ r)
          go true e = inr (rid_at s r (eqb-true s.0 r.0 e))
          go false e = inl (eqb-false s.0 r.0 e)

      rel-in : (p : Value × Rid) → has_pair (released r x).pairs p ≡ true → has_pair (entries_of v i) p ≡ true
      rel-in = rel-there x r (λ p. has_pair (entries_of v i) p ≡ true) (λ p h. grows p (known.there p h)) (λ k e. grows (k, r) (known.kept r k e))

      rel-calm : (s : Rid) (k : Value) (t : TableId) → kept_at (released r x).keys s ≡ Some k → table_of_index head i ≡ Some t
          → is_calm head i k (versions v t s) ≡ true
      rel-calm s k t h e =
          let old = rel-kept x r s k h in
          subst (λ (z : TableId). is_calm head i k (versions v z s) ≡ true) (sym (the-table t e))
          (subst (λ (vs : List Version). is_calm head i k vs ≡ true) (sym (others s old.1)) (known.calm s k d.table old.0 on))

      rel-rest : AreParked v i (released r x)
      rel-rest p h =
          let k = known.parked p (subst (λ (ps : List (Value × Rid)). has_pair ps p ≡ true) (rel-parked x r) h) in
          (grows p k.0, subst (λ (b : Edges). IsHeld v b (Key i p.0)) (sym (rel-by x r)) (rest p.0 k.1))

      pub known-released : ((p : Value × Rid) → has_pair (entries_of v i) p ≡ true → has_pair (entries_of w i) p ≡ true) → IsKnown head v i (released r x)
      known-released back = record {
        ordered = rel-ordered x r known.ordered;
        all = λ p h. rel-knows x r p (known.all p (back p h)) (rid-cases p.1);
        there = rel-in;
        kept = λ s k h. grows (k, s) (known.kept s k (rel-kept x r s k h).0);
        calm = rel-calm;
        parked = rel-rest;
      }

      pub known-changed : (key : Value) → has_pair (entries_of v i) (key, r) ≡ true
          → ((p : Value × Rid) → has_pair (entries_of v i) p ≡ true → (has_pair (entries_of w i) p ≡ true) ⊎ (p ≡ (key, r)))
          → IsKnown head v i (changed r key x)
      known-changed key new back = record {
        ordered = ordered-with (key, r) (released r x).pairs (rel-ordered x r known.ordered);
        all = λ p h. elim (back p h) [
          | inl a ↦ elim (rel-knows x r p (known.all p a) (rid-cases p.1)) [
            | inl b ↦ inl (with-has (key, r) p (released r x).pairs b)
            | inr b ↦ inr b
          ]
          | inr a ↦ inl (subst (λ (z : Value × Rid). has_pair (with_pair (key, r) (released r x).pairs) z ≡ true) (sym a)
              (with-new (key, r) (released r x).pairs))
        ];
        there = λ p h. elim (has-with (key, r) p (released r x).pairs h) [
          | inl a ↦ rel-in p a
          | inr a ↦ subst (λ (z : Value × Rid). has_pair (entries_of v i) z ≡ true) (sym a) new
        ];
        kept = λ s k h. grows (k, s) (known.kept s k (rel-kept x r s k h).0);
        calm = rel-calm;
        parked = rel-rest;
      }

    -- a row comes into a slot
    known-row : (t : TableId) (r : Rid) (row : List Value) → entries_of v i ≡ gained head w t r row i
        → ((s : Rid) (u : TableId) → (versions v u s ≡ versions w u s) ⊎ ((u ≡ t) × (s ≡ r)))
        → IsKnown head v i (if table_eq t d.table then changed r (key_by d row) x else x)
    known-row t r row is others = go (table_eq t d.table) refl
      where
        apart : (b : Bool) → list_any (index_eq i) (indexes_of head t) ≡ b → (t ≡ d.table → ⊥) → entries_of v i ≡ entries_of w i
        apart true e n = absurd (n (index-table head i d.table t on e))
        apart false e n = is ∙ rw e refl

        go : (b : Bool) → table_eq t d.table ≡ b → IsKnown head v i (if table_eq t d.table then changed r (key_by d row) x else x)
        go false e =
            let n : t ≡ d.table → ⊥ = λ s. eqb-false t.0 d.table.0 e (ap (λ (z : TableId). z.0) s) in
            rw e (known-same (apart (list_any (index_eq i) (indexes_of head t)) refl n) (λ s u k f c. elim (others s u) [
              | inl a ↦ subst (λ (vs : List Version). is_calm head i k vs ≡ true) (sym a) c
              | inr a ↦ absurd (n (sym a.0 ∙ the-table u f))
            ]))
        go true e =
            let same : t ≡ d.table = ap (λ (k : ℕ). record { 0 = k }) (eqb-true t.0 d.table.0 e) in
            let full : entries_of v i ≡ with_pair (key_by d row, r) (entries_of w i) =
            is ∙ has-all same ∙ ap (λ (k : Value). with_pair (k, r) (entries_of w i)) (key-is row) in
            rw e (known-changed r
            (λ p h. subst (λ (ps : List (Value × Rid)). has_pair ps p ≡ true) (sym full) (with-has (key_by d row, r) p (entries_of w i) h))
            (λ s n. elim (others s d.table) [ inl a ↦ a | inr a ↦ absurd (n a.1) ])
            (key_by d row)
            (subst (λ (ps : List (Value × Rid)). has_pair ps (key_by d row, r) ≡ true) (sym full) (with-new (key_by d row, r) (entries_of w i)))
            (λ p h. has-with (key_by d row, r) p (entries_of w i) (subst (λ (ps : List (Value × Rid)). has_pair ps p ≡ true) full h)))
          where
            has-all : t ≡ d.table → gained head w t r row i ≡ with_pair (key_in head i row, r) (entries_of w i)
            has-all s =
                let a : list_any (index_eq i) (indexes_of head t) ≡ true =
                subst (λ (z : TableId). list_any (index_eq i) (indexes_of head z) ≡ true) (sym s) among in
                rw a refl

    -- a row goes out of a slot
    known-gone : (t : TableId) (r : Rid) → entries_of v i ≡ entries_of w i
        → ((s : Rid) (u : TableId) → (versions v u s ≡ versions w u s) ⊎ ((u ≡ t) × (s ≡ r)))
        → IsKnown head v i (if table_eq t d.table then released r x else x)
    known-gone t r is others = go (table_eq t d.table) refl
      where
        go : (b : Bool) → table_eq t d.table ≡ b → IsKnown head v i (if table_eq t d.table then released r x else x)
        go false e =
            let n : t ≡ d.table → ⊥ = λ s. eqb-false t.0 d.table.0 e (ap (λ (z : TableId). z.0) s) in
            rw e (known-same is (λ s u k f c. elim (others s u) [
              | inl a ↦ subst (λ (vs : List Version). is_calm head i k vs ≡ true) (sym a) c
              | inr a ↦ absurd (n (sym a.0 ∙ the-table u f))
            ]))
        go true e = rw e (known-released r
            (λ p h. subst (λ (ps : List (Value × Rid)). has_pair ps p ≡ true) (sym is) h)
            (λ s n. elim (others s d.table) [ inl a ↦ a | inr a ↦ absurd (n a.1) ])
            (λ p h. subst (λ (ps : List (Value × Rid)). has_pair ps p ≡ true) is h))

    -- a purged pair is doubtful
    known-purged : (j : IndexId) (key : Value) (r : Rid) → least_purgeable head w ≡ Some (j, (key, r))
        → (entries_of v i ≡ entries_of w i) ⊎ ((i ≡ j) × (entries_of v i ≡ without_pair (key, r) (entries_of w i)))
        → (index_eq j i ≡ true → entries_of v i ≡ without_pair (key, r) (entries_of w i))
        → ((s : Rid) (u : TableId) → versions v u s ≡ versions w u s)
        → IsKnown head v i (if index_eq j i then record x { pairs = without_pair (key, r) x.pairs } else x)
    known-purged j key r least is here_is same = go (index_eq j i) refl
      where
        calm-same : (s : Rid) (u : TableId) (k : Value) → is_calm head i k (versions w u s) ≡ true → is_calm head i k (versions v u s) ≡ true
        calm-same s u k c = subst (λ (vs : List Version). is_calm head i k vs ≡ true) (sym (same s u)) c

        go : (b : Bool) → index_eq j i ≡ b → IsKnown head v i (if index_eq j i then record x { pairs = without_pair (key, r) x.pairs } else x)
        go false e = rw e (known-same (elim is [
          | inl a ↦ a
          | inr a ↦ absurd (eqb-false j.0 i.0 e (ap (λ (z : IndexId). z.0) (sym a.0)))
        ]) (λ s u k f c. calm-same s u k c))
        go true e = rw e (record {
          ordered = ordered-without (key, r) x.pairs known.ordered;
          all = λ p h. (let k = has-without (key, r) p (entries_of w i) (subst (λ (ps : List (Value × Rid)). has_pair ps p ≡ true) (here_is e) h) in
              elim (known.all p k.0) [ inl a ↦ inl (without-has (key, r) p x.pairs a k.1) | inr a ↦ inr a ]);
          there = λ p h. (let k = has-without (key, r) p x.pairs h in stays p (known.there p k.0) k.1);
          kept = λ s k h. stays (k, s) (known.kept s k h) (other s k h (pair_eq (key, r) (k, s)) refl);
          calm = λ s k t h f. calm-same s t k (known.calm s k t h f);
          parked = λ p h. (let k = known.parked p h in (stays p k.0 (unused p k.1 (pair_eq (key, r) p) refl), rest p.0 k.1));
        })
          where
            stays : (p : Value × Rid) → has_pair (entries_of w i) p ≡ true → pair_eq (key, r) p ≡ false → has_pair (entries_of v i) p ≡ true
            stays p h n = subst (λ (ps : List (Value × Rid)). has_pair ps p ≡ true) (sym (here_is e)) (without-has (key, r) p (entries_of w i) h n)

            goes : is_purgeable head w i (key, r) ≡ true
            goes = subst (λ (z : IndexId). is_purgeable head w z (key, r) ≡ true) (index_is j i e) (purged head w j (key, r) least)

            stale : (not (is_pending (versions w d.table r)) && not (row_has head i key (committed (versions w d.table r)))) ≡ true
            stale = (let z : is_purgeable_of head w i (key, r) d.table ≡ true = rw on at goes in
                two (not (is_pending (versions w d.table r))) (not (row_has head i key (committed (versions w d.table r)))) (not (is_in_use w (Key i key))) z)
              where
                two : (a b c : Bool) → (a && b && c) ≡ true → (a && b) ≡ true
                two true true c z = refl
                two true false c z = absurd (both_ways false refl z)
                two false b c z = absurd (both_ways false refl z)

            third : is_in_use w (Key i key) ≡ false
            third = (let z : is_purgeable_of head w i (key, r) d.table ≡ true = rw on at goes in
                last (not (is_pending (versions w d.table r))) (not (row_has head i key (committed (versions w d.table r)))) (is_in_use w (Key i key)) z)
              where
                last : (a b c : Bool) → (a && b && not c) ≡ true → c ≡ false
                last a b false z = refl
                last true true true z = absurd (both_ways false refl z)
                last true false true z = absurd (both_ways false refl z)
                last false b true z = absurd (both_ways false refl z)

            -- a parked pair's key is in use
            unused : (p : Value × Rid) → IsHeld w x.by (Key i p.0) → (b : Bool) → pair_eq (key, r) p ≡ b → pair_eq (key, r) p ≡ false
            unused p held false f = f
            unused p held true f =
                let own : IsHeld w x.by (Key i key) =
                subst (λ (z : Value × Rid). IsHeld w x.by (Key i z.0)) (sym (pair_is (key, r) p f)) held in
                absurd (both_ways (is_in_use w (Key i key)) third (held-used w x.by (Key i key) own))

            other : (s : Rid) (k : Value) → kept_at x.keys s ≡ Some k → (b : Bool) → pair_eq (key, r) (k, s) ≡ b → pair_eq (key, r) (k, s) ≡ false
            other s k h false f = f
            other s k h true f =
                let is_same : (key, r) ≡ (k, s) = pair_is (key, r) (k, s) f in
                let c = known.calm s k d.table h on in
                let own : is_calm head i key (versions w d.table r) ≡ true =
                subst (λ (z : Value × Rid). is_calm head i z.0 (versions w d.table z.1) ≡ true) (sym is_same) c in
                absurd (both_ways _ (calm-fresh head i key (versions w d.table r) own) stale)

  -- ---- by the kinds of entries

  module _ (x : Known) (known : IsKnown head w i x) (many : length w.entries ≡ length head.indexes) where
    abbrev next : Who → Act → World
    next who a = after head w (record { who = who; act = a })

    idle : (who : Who) (a : Act) → ((s : Rid) (t : TableId) → is_pending (versions w t s) ≡ false → versions (next who a) t s ≡ versions w t s)
        → (s : Rid) (t : TableId) (k : Value) → table_of_index head i ≡ Some t → is_calm head i k (versions w t s) ≡ true
        → is_calm head i k (versions (next who a) t s) ≡ true
    idle who a h s t k f c =
        subst (λ (vs : List Version). is_calm head i k vs ≡ true) (sym (h s t (calm-idle head i k (versions w t s) c))) c

    gains : (t : TableId) (r : Rid) (row : List Value) → slice_index_or (entries_by head w (Gains t r row)) i.0 [] ≡ gained head w t r row i
    gains t r row = pairs-gained head w t r row i (index-there head i d.table on)

    writes : (u : ℕ) (t : TableId) (r : Rid) (row : Option (List Value)) (s : Rid) (y : TableId)
        → (versions_in (tables_by w u (Writes t r row)) y s ≡ versions w y s) ⊎ ((y ≡ t) × (s ≡ r))
    writes u t r row s y = elim (versions-writes w u t r row y s) [ inl e ↦ inl e | inr e ↦ inr (e.0, e.1) ]

    -- the names by which pairs are parked stay held
    abbrev Rests : Who → Act → Type 0
    Rests who a = (k : Value) → IsHeld w x.by (Key i k) → IsHeld (next who a) x.by (Key i k)

    known-agent : (c : Conn) (a : Act) → ByAgent head w c a → Rests (Agent c) a → IsKnown head (next (Agent c) a) i (known_by i d a x)
    known-agent c (Insert t r row) al rest = known-row x known (next (Agent c) (Insert t r row)) rest t r row (gains t r row) (λ s y. elim
        (versions-adds w (unit_of_maker w (Agent c)) t row y s) [
          | inl e ↦ inl e
          | inr e ↦ inr (e.0, rid_at s r (e.1 ∙ ap (λ (z : Rid). z.0) (sym al.3)))
        ])
    known-agent c (Update t r row) al rest =
        known-row x known (next (Agent c) (Update t r row)) rest t r row (gains t r row) (λ s y. writes (unit_of_maker w (Agent c)) t r (Some row) s y)
    known-agent c (Delete t r) al rest =
        known-gone x known (next (Agent c) (Delete t r)) rest t r refl (λ s y. writes (unit_of_maker w (Agent c)) t r None s y)
    known-agent c (Undo n) al rest = known-same x known (next (Agent c) (Undo n)) rest refl
        (idle (Agent c) (Undo n) (λ s t p. versions-takes w (unit_of_maker w (Agent c)) n t s ∙ taken-idle n (versions w t s) p))
    known-agent c Commit al rest = known-same x known (next (Agent c) Commit) rest refl
        (idle (Agent c) Commit (λ s t p. versions-settles w (unit_of_maker w (Agent c)) t s ∙ settled-idle (unit_of_maker w (Agent c)) (versions w t s) p))
    known-agent c (Purge j key r) al rest = absurd al
    known-agent c a al rest = known-same x known (next (Agent c) a) rest refl (λ s t k f e. e)

    known-dispatcher : (a : Act) → ByDispatcher head w a → Rests Dispatcher a → IsKnown head (next Dispatcher a) i (known_by i d a x)
    known-dispatcher (Purge j key r) al rest = known-purged x known (next Dispatcher (Purge j key r)) rest j key r al.2 (pairs-lost head w j key r i)
        (λ e. lost (sym (index_is j i e))) (λ s u. refl)
      where
        in_range : i.0 < length w.entries
        in_range = let lt = got-within head.indexes i.0 d here in omega (arith, lt, many)

        lost : i ≡ j → entries_of (next Dispatcher (Purge j key r)) i ≡ without_pair (key, r) (entries_of w i)
        lost e = subst (λ (z : IndexId). entries_of (next Dispatcher (Purge z key r)) i ≡ without_pair (key, r) (entries_of w i)) e
            (at-set_here w.entries i.0 (without_pair (key, r) (entries_of w i)) in_range)
    known-dispatcher (Insert t r row) al rest = absurd al
    known-dispatcher (Update t r row) al rest = absurd al
    known-dispatcher (Delete t r) al rest = absurd al
    known-dispatcher (Undo n) al rest = absurd al
    known-dispatcher Commit al rest = absurd al
    known-dispatcher a al rest = known-same x known (next Dispatcher a) rest refl (λ s t k f e. e)

    pub known-after : (e : Entry) → Allowed head w e → FreesNone e x → IsKnown head (after head w e) i (known_by i d e.act x)
    known-after e al none = go e.who e.act al.2 (λ k h. held-after head w x.by i k e.who e.act none h)
      where
        go : (who : Who) (a : Act) → By head w who a → Rests who a → IsKnown head (next who a) i (known_by i d a x)
        go Dispatcher a b rest = known-dispatcher a b rest
        go (Agent c) a b rest = known-agent c a b.1 rest

-- ---- along a history

last-from : (head : Head) (w : World) (es : List Entry) (e : Entry) → GroundFrom head w (es ++ e ∷ []) → Allowed head (world_from head w es) e
unfolding GroundFrom world_from
last-from head w [] e g = g.0
last-from head w (x ∷ xs) e g = last-from head (after head w x) xs e g.1

pub last-stands : (head : Head) (es : List Entry) (e : Entry) → Ground head (es ++ e ∷ []) → Allowed head (world head es) e
unfolding Ground world
last-stands head es e g = last-from head (start head) es e g

-- one entry more
pub known-next : (p : Content) → Stands p → (i : IndexId) (d : IndexDef) → slice_get p.head.indexes i.0 ≡ Some d → (n : ℕ) (e : Entry)
    → n < length p.history → e ≡ get_or p.history n e → (x : Known) → FreesNone e x
    → WasKnown p.head p.history i x n → WasKnown p.head p.history i (known_by i d e.act x) (n + 1)
known-next p s i d here n e lt is x none was =
    let more : take (n + 1) p.history ≡ take n p.history ++ e ∷ [] =
    take_more p.history n e lt ∙ ap (λ (y : Entry). take n p.history ++ y ∷ []) (sym is) in
    let ground = subst (λ (es : List Entry). Ground p.head es) more (Ground-take p.head p.history (n + 1) s.ground) in
    let al = last-stands p.head (take n p.history) e ground in
    let next = known-after p.head (world p.head (take n p.history)) i d here x was.known (sound-at p.head p.history s.ground n).locks.parts.entries e al none in
    record {
      within = omega (arith, lt);
      known = subst (λ (es : List Entry). IsKnown p.head (world p.head es) i (known_by i d e.act x)) (sym more)
          (subst (λ (w : World). IsKnown p.head w i (known_by i d e.act x)) (sym (world-snoc p.head (take n p.history) e)) next);
    }

-- what is known is so before an entry, too
pub known-freed : (head : Head) (es : List Entry) (i : IndexId) (e : Entry) (x y : Known) (n : ℕ) → IsFreed e x y → WasKnown head es i x n
    → WasKnown head es i y n
known-freed head es i e x y n f was = record { within = was.within; known = f.known head (world head (take n es)) i was.known }

-- at the end it is known now
pub known-end : (head : Head) (es : List Entry) (i : IndexId) (x : Known) (n : ℕ) → length es ≤ n → WasKnown head es i x n → IsKnown head (world head es) i x
known-end head es i x n le was =
    let w = was.within in
    let same : n ≡ length es = omega (arith, le, w) in
    let all : take n es ≡ es = ap (λ (k : ℕ). take k es) same ∙ take-length es in
    subst (λ (fs : List Entry). IsKnown head (world head fs) i x) all was.known

pub known-now : (head : Head) (es : List Entry) (i : IndexId) (x : Known) (n : ℕ) → n ≡ length es → IsKnown head (world head es) i x → WasKnown head es i x n
known-now head es i x n is known =
    let all : take n es ≡ es = ap (λ (k : ℕ). take k es) is ∙ take-length es in
    record { within = omega (arith, is); known = subst (λ (fs : List Entry). IsKnown head (world head fs) i x) (sym all) known }

-- and stays known as the history grows
pub known-grown : (head : Head) (es more : List Entry) (i : IndexId) (x : Known) (n : ℕ) → WasKnown head es i x n → WasKnown head (es ++ more) i x n
known-grown head es more i x n was =
    let long : length (es ++ more) ≡ length es + length more = length-append es more in
    let le = was.within in
    record {
      within = omega (arith, le, long);
      known = subst (λ (fs : List Entry). IsKnown head (world head fs) i x) (sym (take-append-le n es more was.within)) was.known;
    }
