-- The set of the connections with an edge into a set, gathered place by place.
use Rattle.std.proofs.Common.{◌≡◌, ℕ, ◌+◌, ◌<◌, ◌↔◌, inl, inr, Bool, true, false, ◌||◌, ◌==◌, List, length, refl, sym, ◌∙◌, subst, arith}
use Rattle.std.proofs.lemmas.Bool.{cases_lt, eq-eqb, eqb-true, or_cases, both_ways}
use Rattle.std.proofs.lemmas.List.{get_or_past}
use Rattle.std.proofs.lemmas.Nat.Bits.{bit_at-zero}
use Rattle.iso_types.specs.Edges.{has_edge, leads}
use Rattle.iso_types.specs.Ids.{conn_eq}
use Rattle.iso_types.specs.declared.edges.Edges.{Edges}
use Rattle.iso_types.specs.declared.value.Conn.{Conn}
use Rattle.iso_waitgraph.specs.Walks.{LeadsInto, set_at}

pub or-left : (a b : Bool) → a ≡ true → (a || b) ≡ true
or-left a b h = rw h refl

pub or-right : (a b : Bool) → b ≡ true → (a || b) ≡ true
or-right true b h = refl
or-right false b h = h

-- the connections before this place that have an edge into the set
abbrev pub Gathered : List Edges → Edges → ℕ → (Conn → Bool) → Type 0
Gathered sets set i found = (v : Conn) → (found v ≡ true) ↔ ((v.0 < i) × LeadsInto sets set v)

-- the set at the place has an edge into the set
abbrev pub Hits : List Edges → Edges → ℕ → Type 0
Hits sets set i = (w : Conn) × (has_edge (set_at sets i) w ≡ true) × (has_edge set w ≡ true)

pub gathered-hit : (sets : List Edges) (set : Edges) (i : ℕ) (found next : Conn → Bool)
    → Gathered sets set i found → Hits sets set i
    → ((v : Conn) → next v ≡ (conn_eq v (record { 0 = i }) || found v))
    → Gathered sets set (i + 1) next
unfolding leads
gathered-hit sets set i found next h hit is v = (there, back) where
  there : next v ≡ true → (v.0 < i + 1) × LeadsInto sets set v
  there t = elim (or_cases (v.0 == i) (found v) (sym (is v) ∙ t)) [
    | inl e ↦
        let at : i ≡ v.0 = sym (eqb-true v.0 i e) in
        let P : ℕ → Type 0 = λ n. Hits sets set n in
        (omega arith, subst P at hit)
    | inr f ↦ let w : (v.0 < i) × LeadsInto sets set v = (h v).0 f in (omega arith, w.1)
  ]

  back : (v.0 < i + 1) × LeadsInto sets set v → next v ≡ true
  back w = elim (cases_lt v.0 i) [
    | inl l ↦ is v ∙ or-right (v.0 == i) (found v) ((h v).1 (l, w.1))
    | inr g ↦ is v ∙ or-left (v.0 == i) (found v) (eq-eqb v.0 i (omega arith))
  ]

pub gathered-miss : (sets : List Edges) (set : Edges) (i : ℕ) (found : Conn → Bool)
    → Gathered sets set i found → (Hits sets set i → ⊥)
    → Gathered sets set (i + 1) found
unfolding leads
gathered-miss sets set i found h miss v = (there, back) where
  there : found v ≡ true → (v.0 < i + 1) × LeadsInto sets set v
  there t = let w : (v.0 < i) × LeadsInto sets set v = (h v).0 t in (omega arith, w.1)

  back : (v.0 < i + 1) × LeadsInto sets set v → found v ≡ true
  back w = elim (cases_lt v.0 i) [
    | inl l ↦ (h v).1 (l, w.1)
    | inr g ↦
        let at : v.0 ≡ i = omega arith in
        let P : ℕ → Type 0 = λ n. Hits sets set n in
        absurd (miss (subst P at w.1))
  ]

-- a set past the end has no edge
has-none : (w : Conn) → has_edge (record { 0 = 0 }) w ≡ false
unfolding has_edge
has-none w = rw (bit_at-zero w.0) refl

-- a connection with an edge is one of the list
pub place-within : (sets : List Edges) (v w : Conn) → leads sets v w ≡ true → v.0 < length sets
unfolding leads
place-within sets v w h =
    elim (cases_lt v.0 (length sets)) [
      | inl l ↦ l
      | inr g ↦ absurd (both_ways (has_edge (record { 0 = 0 }) w) (has-none w) (rw (get_or_past {X = Edges} sets v.0 (record { 0 = 0 }) g) at h))
    ]
