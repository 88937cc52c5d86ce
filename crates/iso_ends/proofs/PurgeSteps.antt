-- The parts after a purge.
use Rattle.std.proofs.Common.{◌≡◌, ◌<◌, ◌∙◌, inl, ℕ, true, false, not, List, [], ◌∷◌, length, map, refl, ap, sym, subst, arith, slice_get, slice_set, slice_index_or, Some, None}
use Rattle.std.proofs.lemmas.List.{length-map}
use Rattle.std.specs.Prelude.{zero, suc}
use Rattle.iso_chain.proofs.Carries.{carried-more, no-row}
use Rattle.iso_chain.proofs.Units.{kept-chained}
use Rattle.iso_history.proofs.Snoc.{Ground-snoc, world-snoc}
use Rattle.iso_history.proofs.limits.Totals.{totals-after}
use Rattle.iso_history.proofs.phantoms.EntriesAfter.{purged}
use Rattle.iso_history.specs.After.{after, world}
use Rattle.iso_ends.proofs.PurgeWalks.{pairs-ordered}
use Rattle.iso_history.specs.Entries.{entries_of, is_purgeable, least_purgeable, without_pair}
use Rattle.iso_history.specs.Orders.{IsOrdered}
use Rattle.iso_history.specs.Legal.{Allowed, ByDispatcher}
use Rattle.iso_history.specs.Makers.{by_dispatcher}
use Rattle.iso_history.specs.Stops.{is_full}
use Rattle.iso_history.specs.World.{Pace, World}
use Rattle.iso_history.specs.declared.entry.Act.TheVariants.{Purge}
use Rattle.iso_history.specs.declared.entry.Who.TheVariants.{Dispatcher}
use Rattle.iso_key.specs.Pages.{entries}
use Rattle.iso_state.proofs.ByKind.{full-is, ready-allowed}
use Rattle.iso_state.proofs.Desks.{dispatcher-kept}
use Rattle.iso_state.proofs.FactsAlong.{apart-of, none_left-of, sound-of, within-of}
use Rattle.iso_state.proofs.Steps.{step-room}
use Rattle.iso_state.specs.Changes.{noted}
use Rattle.iso_state.specs.Stands.{Content, HasPlace, Stands, StandsFor, content_of, desk_at, world_of}
use Rattle.iso_state.specs.Steps.{IsReady, Spends, is_past}
use Rattle.iso_state.specs.declared.parts.Parts.{Parts}
use Rattle.iso_types.specs.declared.head.Head.{Head}
use Rattle.iso_types.specs.declared.value.IndexId.{IndexId}
use Rattle.iso_types.specs.declared.value.Rid.{Rid}
use Rattle.iso_types.specs.declared.value.Value.{Value}

-- without the pair, and with a purge as the dispatcher's last entry
abbrev pub purged_of : Content → IndexId → Value → Rid → Content
purged_of p i key r = record p {
  entries = slice_set p.entries i.0 (without_pair (key, r) (slice_index_or p.entries i.0 []));
  pace = record p.pace { purged = true };
}

-- ---- the pair's index is there

some-within : {A : Type 0} (xs : List A) (k : ℕ) → (slice_get xs k ≡ None → ⊥) → k < length xs
some-within [] k h = absurd (h refl)
some-within (x ∷ xs) zero h = omega arith
some-within (x ∷ xs) (suc k) h = let rest = some-within xs k h in omega (arith, rest)

index-within : (head : Head) (w : World) (i : IndexId) (p : Value × Rid) → is_purgeable head w i p ≡ true → i.0 < length head.indexes
index-within head w i p e = some-within head.indexes i.0 none
  where
    none : slice_get head.indexes i.0 ≡ None → ⊥
    none n = let z : false ≡ true = rw n at e in absurd (cc)

-- it has its entries
pub index-there : (p : Parts) → StandsFor p → (i : IndexId) (x : Value × Rid) → least_purgeable p.head (world_of p) ≡ Some (i, x) → i.0 < length p.indexes
index-there p s i x least =
    let within = index-within p.head (world_of p) i x (purged p.head (world_of p) i x least) in
    let all : length (map entries p.indexes) ≡ length p.indexes = length-map p.indexes entries in
    let same : length (map entries p.indexes) ≡ length (world_of p).entries = ap (λ (es : List (List (Value × Rid))). length es) s.parts.entries in
    let many : length (world_of p).entries ≡ length p.head.indexes = (sound-of s.stands).locks.parts.entries in
    omega (arith, within, all, same, many)

-- where one of its lists of pages is written
map-set : (xs : List (List (List (Value × Rid)))) (k : ℕ) (x : List (List (Value × Rid))) → map entries (slice_set xs k x) ≡ slice_set (map entries xs) k (entries x)
map-set [] k x = refl
map-set (y ∷ ys) zero x = refl
map-set (y ∷ ys) (suc k) x = ap (λ (zs : List (List (Value × Rid))). entries y ∷ zs) (map-set ys k x)

at-map : (xs : List (List (List (Value × Rid)))) (k : ℕ) (x : List (List (Value × Rid))) → slice_get xs k ≡ Some x
    → slice_index_or (map entries xs) k [] ≡ entries x
at-map [] k x e = absurd (cc)
at-map (y ∷ ys) zero x e = let same : y ≡ x = cc in ap (λ (z : List (List (Value × Rid))). entries z) same
at-map (y ∷ ys) (suc k) x e = at-map ys k x e

pub entries-set : (xs : List (List (List (Value × Rid)))) (i : IndexId) (key : Value) (r : Rid) (x y : List (List (Value × Rid))) → slice_get xs i.0 ≡ Some x
    → entries y ≡ without_pair (key, r) (entries x)
    → map entries (slice_set xs i.0 y) ≡ slice_set (map entries xs) i.0 (without_pair (key, r) (slice_index_or (map entries xs) i.0 []))
entries-set xs i key r x y e is =
    map-set xs i.0 y
    ∙ ap (λ (ps : List (Value × Rid)). slice_set (map entries xs) i.0 ps) (is ∙ ap (λ (ps : List (Value × Rid)). without_pair (key, r) ps) (sym (at-map xs i.0 x e)))

-- ---- the step

module _ (p : Content) (i : IndexId) (key : Value) (r : Rid) (s : Stands p) (free : (world p.head p.history).pace.finished ≡ false)
    (going : (world p.head p.history).pace.stopped ≡ false) (calm : (world p.head p.history).pace.purged ≡ false)
    (least : least_purgeable p.head (world p.head p.history) ≡ Some (i, (key, r))) where
  may-purge : ByDispatcher p.head (world p.head p.history) (Purge i key r)
  may-purge = (ap not going, ap not calm, least)

  pub purge-full : is_past p 1 ≡ true → is_full p.head (world p.head p.history) (by_dispatcher (Purge i key r)) ≡ true
  purge-full past = full-is p Dispatcher (Purge i key r) 1 s free may-purge refl refl ∙ past

  purge-allowed : is_past p 1 ≡ false → Allowed p.head (world p.head p.history) (by_dispatcher (Purge i key r))
  purge-allowed past = ready-allowed p Dispatcher (Purge i key r) 1 s free may-purge refl refl past

  purge-stands : is_past p 1 ≡ false → Stands (noted (purged_of p i key r) (by_dispatcher (Purge i key r)))
  purge-stands past =
      let w = world p.head p.history in
      let e = by_dispatcher (Purge i key r) in
      let al = purge-allowed past in
      let sums = (totals-after p.head w e al (apart-of s) (within-of s).course (none_left-of s)).reserves_move in
      let kept = s.parts.reserved in
      record {
        parts = rw (world-snoc p.head p.history e) (record {
          chain = kept-chained w (after p.head w e) p.chain refl refl refl refl refl refl s.parts.chain;
          entries = ap (λ (es : List (List (Value × Rid))). slice_set es i.0 (without_pair (key, r) (slice_index_or es i.0 []))) s.parts.entries;
          pace = ap (λ (q : Pace). record q { purged = true }) s.parts.pace;
          locks = s.parts.locks;
          desks = λ d lt. dispatcher-kept p.head w (Purge i key r) d (desk_at p.desks d)
              (record { ended_same = refl; closing_same = refl; doom_same = refl; waiting_same = refl; line_same = refl; unit_same = refl }) refl (s.parts.desks d lt);
          reserved = omega (arith, sums, kept);
        });
        carried = carried-more p.chain.log p.chain.log p.history e s.carried (no-row p.chain.log (Purge i key r) refl);
        conns = s.conns;
        works = s.works;
        limits = s.limits;
        bounds = s.bounds;
        fits = s.fits;
        ground = Ground-snoc p.head p.history e s.ground al;
      }

-- the parts after it
pub purge-place : (p q : Parts) (i : IndexId) (key : Value) (r : Rid) → StandsFor p → IsReady p 1 → Spends p q
    → (world_of p).pace.finished ≡ false → (world_of p).pace.stopped ≡ false → (world_of p).pace.purged ≡ false
    → least_purgeable p.head (world_of p) ≡ Some (i, (key, r))
    → content_of q ≡ noted (purged_of (content_of p) i key r) (by_dispatcher (Purge i key r)) → StandsFor q
purge-place p q i key r s ready spends free going calm least wrote =
    let more = spends.log in
    let x = content_of p in
    subst (λ (y : Content). HasPlace y q.history.spare q.log.spare) (sym wrote)
    (record {
      stands = purge-stands x i key r s.stands free going calm least ready.fits;
      room = step-room x (by_dispatcher (Purge i key r)) p.history.spare q.history.spare p.log.spare q.log.spare s
          (purge-allowed x i key r s.stands free going calm least ready.fits)
          (record { made = inl ready.spare; pushed = spends.history; logged = omega (arith, more); bare = refl });
    })

-- ---- the pairs of an index as the parts keep them

pub keys-are : (p : Parts) → StandsFor p → (i : IndexId) (x : List (List (Value × Rid))) → Some x ≡ slice_get p.indexes i.0
    → entries x ≡ entries_of (world_of p) i
keys-are p s i x e = sym (at-map p.indexes i.0 x (sym e)) ∙ ap (λ (es : List (List (Value × Rid))). slice_index_or es i.0 []) s.parts.entries

pub keys-ordered : (p : Parts) → StandsFor p → (i : IndexId) (x : List (List (Value × Rid))) → Some x ≡ slice_get p.indexes i.0 → IsOrdered (entries x)
keys-ordered p s i x e = pairs-ordered (content_of p) s.stands i (entries x) (keys-are p s i x e)
