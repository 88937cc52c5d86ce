-- Who lies on a cycle stays where those without an edge to one that is left go.
use Rattle.std.proofs.Common.{◌≡◌, ◌<◌, ◌↔◌, Bool, true, false, ◌&&◌, ◌||◌, List, [], ◌∷◌, length, refl, sym, ◌∙◌, Some, None, Option}
use Rattle.std.specs.Prelude.{MatchOption, is_some}
use Rattle.std.proofs.lemmas.Bool.{and_from, both_ways}
use Rattle.iso_types.specs.Cycles.{HasNoCycle, IsChosen, IsCycle, Leads, chosen_cycle, is_among}
use Rattle.iso_types.specs.Edges.{has_edge, leads}
use Rattle.iso_types.specs.declared.edges.Edges.{Edges}
use Rattle.iso_types.specs.declared.value.Conn.{Conn}
use Rattle.iso_waitgraph.proofs.Agree.{chosen}
use Rattle.iso_waitgraph.proofs.Members.{among-first, among-rest}
use Rattle.iso_waitgraph.proofs.Paths.{cycle-turned}
use Rattle.iso_waitgraph.proofs.Sets.{place-within}
use Rattle.iso_waitgraph.specs.Targets.{AreTargets}
use Rattle.iso_waitgraph.specs.Walks.{LeadsInto}

-- the set has all that lie on cycles
abbrev pub HasAll : List Edges → Edges → Type 0
HasAll sets left = (q : List Conn) (d : Conn) → IsCycle (leads sets) q → is_among d q ≡ true → has_edge left d ≡ true

-- who lies on a cycle has an edge to one that does
on-next : (sets : List Edges) (q : List Conn) (d : Conn) → IsCycle (leads sets) q → is_among d q ≡ true
    → (e : Conn) × (leads sets d e ≡ true) × ((p : List Conn) × IsCycle (leads sets) p × (is_among e p ≡ true))
on-next sets q d g on = go (cycle-turned (leads sets) d q g on)
  where
    go : (es : List Conn) × IsCycle (leads sets) (d ∷ es) × (length (d ∷ es) ≡ length q)
        → (e : Conn) × (leads sets d e ≡ true) × ((p : List Conn) × IsCycle (leads sets) p × (is_among e p ≡ true))
    go ([], h, same) = (d, h.1, (d ∷ [], h, among-first d []))
    go (e ∷ es, h, same) = (e, h.1.0, (d ∷ e ∷ es, h, among-rest e d (e ∷ es) (among-first e es)))

pub all-first : (sets : List Edges) (left : Edges) → ((v : Conn) → v.0 < length sets → has_edge left v ≡ true) → HasAll sets left
all-first sets left all q d g on = let t = on-next sets q d g on in all d (place-within sets d t.0 t.1)

pub all-next : (sets : List Edges) (left found next : Edges) → ((v : Conn) → (has_edge found v ≡ true) ↔ LeadsInto sets left v)
    → ((v : Conn) → has_edge next v ≡ (has_edge found v && has_edge left v)) → HasAll sets left → HasAll sets next
all-next sets left found next leading both all q d g on =
    let t = on-next sets q d g on in
    both d ∙ and_from (has_edge found d) (has_edge left d) ((leading d).1 (t.0, t.1, all t.2.0 t.0 t.2.1 t.2.2)) (all q d g on)

pub none-left : (sets : List Edges) (left : Edges) → ((v : Conn) → has_edge left v ≡ false) → HasAll sets left → HasNoCycle (leads sets)
none-left sets left none all [] g = g
none-left sets left none all (c ∷ cs) g = both_ways (has_edge left c) (none c) (all (c ∷ cs) c g (among-first c cs))

-- where the least of a set is none the set is empty
pub least-none : (set : Edges) (P : Conn → Type 0) (o : Option Conn) → MatchOption o ((c : Conn) → has_edge set c ≡ false) P → is_some o ≡ false
    → (c : Conn) → has_edge set c ≡ false
least-none set P None m e = m
least-none set P (Some c) m e = absurd (both_ways true e refl)

-- where there is no cycle none is chosen
pub none-judged : (edge : Conn → Conn → Bool) (targets : Conn → List Conn) (all : List Conn) → AreTargets edge targets all → HasNoCycle edge
    → None ≡ chosen_cycle targets all
none-judged edge targets all h none = go (chosen_cycle targets all) (chosen edge targets all h)
  where
    go : (o : Option (List Conn)) → MatchOption o (HasNoCycle edge) (IsChosen edge) → None ≡ o
    go None m = refl
    go (Some q) m = absurd (none q m.2.cycle)
