-- What is known of stale pairs goes on along a history.
use Rattle.std.proofs.Common.{◌≡◌, ◌<◌, ◌+◌, ℕ, zero, suc, true, false, List, [], ◌∷◌, ◌++◌, length, take, ap, sym, subst, ◌∙◌, arith, Some, None, Option, slice_get, get_or}
use Rattle.std.specs.List.{list_all}
use Rattle.std.specs.Option.{option_map}
use Rattle.std.specs.Prelude.{nat_lt}
use Rattle.std.proofs.Math.Seq.{take-length}
use Rattle.std.proofs.lemmas.Bool.{and_parts}
use Rattle.std.proofs.lemmas.Bool.Decides.{nat_tests}
use Rattle.std.proofs.lemmas.List.{length-append, take-append-le, take_more}
use Rattle.iso_ends.proofs.DoubtsAlong.{last-stands}
use Rattle.iso_ends.specs.Freshness.{WasFresh}
use Rattle.iso_ends.proofs.StaleAfter.{none_stale-after}
use Rattle.iso_ends.proofs.StaleWalks.{fresh-none, none-any}
use Rattle.iso_ends.specs.Purges.{NoneStale, TablesThere, any_stale, may_ripen}
use Rattle.iso_history.proofs.Snoc.{world-snoc}
use Rattle.iso_history.proofs.facts.Guarded.{Ground-take}
use Rattle.iso_history.proofs.whole.Sound.{sound-at}
use Rattle.iso_history.specs.After.{world}
use Rattle.iso_history.specs.Entries.{least_purgeable}
use Rattle.iso_history.specs.Legal.{Ground}
use Rattle.iso_history.specs.declared.entry.Entry.{Entry}
use Rattle.iso_state.specs.Stands.{Content, Stands, is_placed}
use Rattle.iso_types.specs.declared.head.Head.{Head}
use Rattle.iso_types.specs.declared.head.IndexDef.{IndexDef}
use Rattle.iso_types.specs.declared.value.TableId.{TableId}

-- the table of an index stands among those of the head
placed-at : (head : Head) (ds : List IndexDef) (k : ℕ) (t : TableId) → list_all (is_placed head) ds ≡ true → option_map (λ d. d.table) (slice_get ds k) ≡ Some t
    → nat_lt t.0 (length head.tables) ≡ true
placed-at head [] k t all e = absurd (cc)
placed-at head (d ∷ ds) zero t all e =
    let same : d.table ≡ t = cc in
    subst (λ (u : TableId). nat_lt u.0 (length head.tables) ≡ true) same (and_parts _ _ (and_parts (is_placed head d) (list_all (is_placed head) ds) all).0).0
placed-at head (d ∷ ds) (suc k) t all e = placed-at head ds k t (and_parts (is_placed head d) (list_all (is_placed head) ds) all).1 e

module _ (p : Content) (s : Stands p) where
  tables-there : (n : ℕ) → TablesThere p.head (world p.head (take n p.history))
  tables-there n i t on =
      let placed = placed-at p.head p.head.indexes i.0 t s.fits.indexes on in
      let lt : t.0 < length p.head.tables = grind (arith, nat_tests, placed) in
      let same = (sound-at p.head p.history s.ground n).locks.parts.tables in
      omega (arith, lt, same)

  -- one entry more
  pub fresh-next : (n : ℕ) (e : Entry) → n < length p.history → e ≡ get_or p.history n e → may_ripen e.act ≡ false
      → WasFresh p.head p.history (Some n) → WasFresh p.head p.history (Some (n + 1))
  fresh-next n e lt is calm fresh =
      let more : take (n + 1) p.history ≡ take n p.history ++ e ∷ [] =
      take_more p.history n e lt ∙ ap (λ (x : Entry). take n p.history ++ x ∷ []) (sym is) in
      let ground = subst (λ (es : List Entry). Ground p.head es) more (Ground-take p.head p.history (n + 1) s.ground) in
      let al = last-stands p.head (take n p.history) e ground in
      let next = none_stale-after p.head (world p.head (take n p.history)) e al (tables-there n) calm fresh.1 in (
        omega (arith, lt),
        subst (λ (es : List Entry). NoneStale p.head (world p.head es)) (sym more)
            (subst (NoneStale p.head) (sym (world-snoc p.head (take n p.history) e)) next),
      )

  -- where it is known up to the end, nothing is purgeable
  pub fresh-end : (n : ℕ) → n ≡ length p.history → WasFresh p.head p.history (Some n) → least_purgeable p.head (world p.head p.history) ≡ None
  fresh-end n is fresh =
      let all : take n p.history ≡ p.history = ap (λ (k : ℕ). take k p.history) is ∙ take-length p.history in
      fresh-none p.head (world p.head p.history) (subst (λ (es : List Entry). NoneStale p.head (world p.head es)) all fresh.1)

-- where all pairs were looked at it is known up to the end
pub fresh-now : (head : Head) (es : List Entry) (n : ℕ) → n ≡ length es → any_stale head (world head es) ≡ false → WasFresh head es (Some n)
fresh-now head es n is none =
    let all : take n es ≡ es = ap (λ (k : ℕ). take k es) is ∙ take-length es in
    (omega (arith, is), subst (λ (fs : List Entry). NoneStale head (world head fs)) (sym all) (none-any head (world head es) none))

-- and stays known as the history grows
pub fresh-grown : (head : Head) (es more : List Entry) (o : Option ℕ) → WasFresh head es o → WasFresh head (es ++ more) o
fresh-grown head es more None f = tt
fresh-grown head es more (Some n) f =
    let long : length (es ++ more) ≡ length es + length more = length-append es more in
    let le = f.0 in (
      omega (arith, le, long),
      subst (λ (fs : List Entry). NoneStale head (world head fs)) (sym (take-append-le n es more f.0)) f.1,
    )

pub fresh-as : (head : Head) (es fs more : List Entry) (o : Option ℕ) → fs ≡ es ++ more → WasFresh head es o → WasFresh head fs o
fresh-as head es fs more o is f = subst (λ (x : List Entry). WasFresh head x o) (sym is) (fresh-grown head es more o f)
