-- What a scan keeps, told of the pairs of its index alone.
use Rattle.std.proofs.Common.{◌≡◌, Bool, true, false, not, ◌&&◌, List, [], ◌∷◌, refl, sym, ◌∙◌, subst, Some, None, Option}
use Rattle.std.specs.List.{list_any}
use Rattle.std.specs.Prelude.{find}
use Rattle.iso_history.proofs.phantoms.Tests.{both, join, opposite, turned}
use Rattle.iso_history.proofs.phantoms.Ordered.{has-first, has-rest, ordered-with, ordered-without}
use Rattle.iso_history.proofs.phantoms.Moves.{guards_all-without, guards_to-without, limit-without}
use Rattle.iso_history.proofs.phantoms.Ranges.{GuardsAll, GuardsTo, at_found, beyond, from_key, guard-at, guard-past, guard_kept, guards_all-with, guards_to-with, limit-with, limit_kept}
use Rattle.iso_history.proofs.phantoms.Values.{value_is}
use Rattle.iso_history.specs.Entries.{entries_of, guard, is_in_range, key_name, with_pair, without_pair}
use Rattle.iso_history.specs.Gaps.{IsRangeKept, guards_name, is_reached, is_slot_kept, stands_in}
use Rattle.iso_history.specs.Orders.{IsOrdered, has_pair}
use Rattle.iso_history.specs.Guards.{is_passed}
use Rattle.iso_history.specs.World.{World}
use Rattle.iso_history.specs.declared.entry.Stand.{Stand}
use Rattle.iso_history.specs.declared.entry.Stand.TheVariants.{At, Past}
use Rattle.iso_queue.specs.Locks.{Hold}
use Rattle.iso_types.specs.Value.{value_eq, value_lt}
use Rattle.iso_types.specs.declared.head.Range.{Range}
use Rattle.iso_types.specs.declared.value.Conn.{Conn}
use Rattle.iso_types.specs.declared.value.IndexId.{IndexId}
use Rattle.iso_types.specs.declared.value.Name.TheVariants.{End, Key}
use Rattle.iso_types.specs.declared.value.Rid.{Rid}
use Rattle.iso_types.specs.declared.value.TableId.{TableId}
use Rattle.iso_types.specs.declared.value.Value.{Value}

-- the keys of an index whose names the connection guards, and whether it guards END
abbrev pub key_guarded : List Hold → Conn → TableId → IndexId → Value → Bool
key_guarded holds c t i v = guards_name holds c t (Key i v)

abbrev pub end_guarded : List Hold → Conn → TableId → IndexId → Bool
end_guarded holds c t i = guards_name holds c t (End i)

-- passed and limit, by g for keys and e for END
abbrev pub StandGuards : (Value → Bool) → Bool → Range → Stand → List (Value × Rid) → Type 0
StandGuards g e range (At v r) qs = GuardsTo g range v qs × (g v ≡ true)
StandGuards g e range Past qs = GuardsAll g range qs × (limit_kept g e range qs ≡ true)
StandGuards g e range _ qs = ⊥

-- where it stands at a key, the key has a pair
abbrev pub StandThere : Stand → List (Value × Rid) → Type 0
StandThere (At v r) qs = (s : Rid) × (has_pair qs (v, s) ≡ true)
StandThere _ qs = Unit {0}

-- the name of what is found
pub name-found : (holds : List Hold) (c : Conn) (t : TableId) (i : IndexId) (o : Option (Value × Rid))
    → guards_name holds c t (key_name i o) ≡ at_found (key_guarded holds c t i) (end_guarded holds c t i) o
name-found holds c t i None = refl
name-found holds c t i (Some p) = refl

-- the guard of a key
pub guard-name : (holds : List Hold) (c : Conn) (t : TableId) (w : World) (i : IndexId) (k : Value)
    → guards_name holds c t (guard w i k) ≡ guard_kept (key_guarded holds c t i) (end_guarded holds c t i) k (entries_of w i)
guard-name holds c t w i k = name-found holds c t i (find (from_key k) (entries_of w i))

-- from what a scan keeps
pub guards-of : (w : World) (c : Conn) (i : IndexId) (t : TableId) (range : Range) (stand : Stand) → IsRangeKept w c i t range stand
    → StandGuards (key_guarded w.holds c t i) (end_guarded w.holds c t i) range stand (entries_of w i)
guards-of w c i t range (At v r) k =
    (λ p hp ip le. k.passed p hp (join (is_in_range range p.0) (not (value_lt v p.0)) ip (opposite (value_lt v p.0) le)), k.limit)
guards-of w c i t range Past k = (
  λ p hp ip. k.passed p hp (join (is_in_range range p.0) true ip refl),
  sym (name-found w.holds c t i (find (beyond range) (entries_of w i))) ∙ k.limit,
)
guards-of w c i t range (Stand.Queued n) k = let z : false ≡ true = k.inside in absurd (cc)
guards-of w c i t range (Stand.TimedOut n) k = let z : false ≡ true = k.inside in absurd (cc)

-- and back
pub kept-by : (w : World) (c : Conn) (i : IndexId) (t : TableId) (range : Range) (stand : Stand) → stands_in range stand ≡ true
    → StandGuards (key_guarded w.holds c t i) (end_guarded w.holds c t i) range stand (entries_of w i)
    → ((p : Value × Rid) → has_pair (entries_of w i) p ≡ true → (is_in_range range p.0 && is_passed stand p) ≡ true → is_slot_kept w c t p.1 ≡ true)
    → IsRangeKept w c i t range stand
kept-by w c i t range (At v r) ins g looked = record {
  inside = ins;
  passed = λ p hp e. let x = both (is_in_range range p.0) (not (value_lt v p.0)) e in g.0 p hp x.0 (turned (value_lt v p.0) x.1);
  limit = g.1;
  looked = looked;
}
kept-by w c i t range Past ins g looked = record {
  inside = ins;
  passed = λ p hp e. g.0 p hp (both (is_in_range range p.0) true e).0;
  limit = name-found w.holds c t i (find (beyond range) (entries_of w i)) ∙ g.1;
  looked = looked;
}
kept-by w c i t range (Stand.Queued n) ins g looked = absurd g
kept-by w c i t range (Stand.TimedOut n) ins g looked = absurd g

-- a key with an entry has a pair
pub key-pair : (v : Value) (qs : List (Value × Rid)) → list_any (λ p. value_eq p.0 v) qs ≡ true → (s : Rid) × (has_pair qs (v, s) ≡ true)
key-pair v [] e = cc
key-pair v (q ∷ qs) e = go (key-pair v qs) (value_eq q.0 v) refl
  where
    go : (list_any (λ p. value_eq p.0 v) qs ≡ true → (s : Rid) × (has_pair qs (v, s) ≡ true)) → (b : Bool) → value_eq q.0 v ≡ b → (s : Rid)
        × (has_pair (q ∷ qs) (v, s) ≡ true)
    go ih true f = (q.1, subst (λ (z : Value). has_pair (q ∷ qs) (z, q.1) ≡ true) (value_is q.0 v f) (has-first q qs))
    go ih false f = let x = ih (rw f at e) in (x.0, has-rest q (v, x.0) qs x.1)

-- a key that the scan has come to, in the range, has a guarded guard
pub stand-guard : (g : Value → Bool) (e : Bool) (range : Range) (stand : Stand) (qs : List (Value × Rid)) → IsOrdered qs → stands_in range stand ≡ true
    → StandThere stand qs
    → StandGuards g e range stand qs → (k : Value) → (is_in_range range k && is_reached stand k) ≡ true → guard_kept g e k qs ≡ true
stand-guard g e range (At v r) qs o ins th s k f = let x = both (is_in_range range k) (not (value_lt v k)) f in
    guard-at g e range qs o v k th.0 th.1 ins s.0 x.0 (turned (value_lt v k) x.1)
stand-guard g e range Past qs o ins th s k f = guard-past g e range qs o k s.0 s.1 (both (is_in_range range k) true f).0
stand-guard g e range (Stand.Queued n) qs o ins th s k f = absurd s
stand-guard g e range (Stand.TimedOut n) qs o ins th s k f = absurd s

-- a new pair, by whose maker its key is guarded where its guard was
pub stand-with : (g h : Value → Bool) (e f : Bool) → ((v : Value) → g v ≡ true → h v ≡ true) → (e ≡ true → f ≡ true) → (range : Range) (stand : Stand)
    (qs : List (Value × Rid)) → IsOrdered qs → (n : Value × Rid) → (guard_kept g e n.0 qs ≡ true → h n.0 ≡ true) → stands_in range stand ≡ true
    → StandThere stand qs
    → StandGuards g e range stand qs → StandGuards h f range stand (with_pair n qs)
stand-with g h e f more more_end range (At v r) qs o n inh ins th s =
    (guards_to-with g h e f more more_end range qs o n (ordered-with n qs o) inh v th.0 th.1 ins s.0, more v s.1)
stand-with g h e f more more_end range Past qs o n inh ins th s = (
  guards_all-with g h e f more more_end range qs o n (ordered-with n qs o) inh s.0 s.1,
  limit-with g h e f more more_end range qs o n
      (ordered-with n qs o) inh s.1,
)
stand-with g h e f more more_end range (Stand.Queued m) qs o n inh ins th s = absurd s
stand-with g h e f more more_end range (Stand.TimedOut m) qs o n inh ins th s = absurd s

-- the same pairs, more guarded
pub stand-more : (g h : Value → Bool) (e f : Bool) → ((v : Value) → g v ≡ true → h v ≡ true) → (e ≡ true → f ≡ true) → (range : Range) (stand : Stand)
    (qs : List (Value × Rid)) → StandGuards g e range stand qs → StandGuards h f range stand qs
stand-more g h e f more more_end range (At v r) qs s = (λ p hp ip le. more p.0 (s.0 p hp ip le), more v s.1)
stand-more g h e f more more_end range Past qs s = (λ p hp ip. more p.0 (s.0 p hp ip), go (find (beyond range) qs) s.1)
  where
    go : (o : Option (Value × Rid)) → at_found g e o ≡ true → at_found h f o ≡ true
    go None z = more_end z
    go (Some p) z = more p.0 z
stand-more g h e f more more_end range (Stand.Queued m) qs s = absurd s
stand-more g h e f more more_end range (Stand.TimedOut m) qs s = absurd s

-- a pair goes whose key is not guarded
pub stand-without : (g : Value → Bool) (e : Bool) (range : Range) (stand : Stand) (qs : List (Value × Rid)) → IsOrdered qs → (n : Value × Rid) → g n.0 ≡ false
    → StandGuards g e range stand qs → StandGuards g e range stand (without_pair n qs)
stand-without g e range (At v r) qs o n free s = (guards_to-without g e range qs o n (ordered-without n qs o) free v s.0, s.1)
stand-without g e range Past qs o n free s =
    (guards_all-without g e range qs o n (ordered-without n qs o) free s.0, limit-without g e range qs o n (ordered-without n qs o) free s.1)
stand-without g e range (Stand.Queued m) qs o n free s = absurd s
stand-without g e range (Stand.TimedOut m) qs o n free s = absurd s
