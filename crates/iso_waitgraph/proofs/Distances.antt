-- How far away from a connection the others are, level by level.
use Rattle.std.proofs.Common.{◌≡◌, ℕ, zero, suc, ◌+◌, ◌<◌, ◌≤◌, ◌↔◌, ◌⊎◌, inl, inr, Bool, true, false, ◌&&◌, ◌||◌, not, List, length, refl, sym, ◌∙◌, subst, arith, set, get_or-set_same, get_or-set_other}
use Rattle.std.proofs.lemmas.Bool.{cases_Bool, cases_eq, cases_lt, and_parts, and_from, or_cases, not-true, both_ways}
use Rattle.iso_types.specs.declared.value.Conn.{Conn}
use Rattle.iso_waitgraph.proofs.Sets.{or-left, or-right}
use Rattle.iso_types.specs.Edges.{has_edge, leads}
use Rattle.iso_types.specs.declared.edges.Edges.{Edges}
use Rattle.iso_waitgraph.specs.Walks.{AreLevels, IsAway, Walk, set_at}

pub not-of : (a : Bool) → a ≡ false → not a ≡ true
not-of a h = rw h refl

-- who has an edge into a level, and was not seen before, is on the next level
pub next-level : (edge : Conn → Conn → Bool) (end : Conn) (p m : ℕ) → m ≡ suc p → (level seen before next : Conn → Bool)
    → ((v : Conn) → (level v ≡ true) ↔ IsAway edge end p v)
    → ((v : Conn) → (seen v ≡ true) ↔ ((j : ℕ) × (j < m) × Walk edge end j v))
    → ((v : Conn) → (before v ≡ true) ↔ ((w : Conn) × (edge v w ≡ true) × (level w ≡ true)))
    → ((v : Conn) → next v ≡ (before v && not (seen v)))
    → (v : Conn) → (next v ≡ true) ↔ IsAway edge end m v
next-level edge end p m e level seen before next on past into is v = (there, back) where
  there : next v ≡ true → IsAway edge end m v
  there h =
      let parts : (before v ≡ true) × (not (seen v) ≡ true) = and_parts (before v) (not (seen v)) (sym (is v) ∙ h) in
      let w : (w : Conn) × (edge v w ≡ true) × (level w ≡ true) = (into v).0 parts.0 in
      let P : ℕ → Type 0 = λ n. Walk edge end n v in
      record {
        walk = subst P (sym e) (w.0, w.1, ((on w.0).0 w.2).walk);
        no_less = λ j l walk. both_ways (seen v) (not-true (seen v) parts.1) ((past v).1 (j, l, walk));
      }

  back : IsAway edge end m v → next v ≡ true
  back h =
      let P : ℕ → Type 0 = λ n. Walk edge end n v in
      let walk : (w : Conn) × (edge v w ≡ true) × Walk edge end p w = subst P e h.walk in
      let near : IsAway edge end p walk.0 = record {
        walk = walk.2;
        no_less = λ j l w. h.no_less (suc j) (omega arith) (walk.0, walk.1, w);
      } in
      let unseen : seen v ≡ false = elim (cases_Bool (seen v)) [
        | inl t ↦ let w : (j : ℕ) × (j < m) × Walk edge end j v = (past v).0 t in absurd (h.no_less w.0 w.1 w.2)
        | inr f ↦ f
      ] in
      is v ∙ and_from (before v) (not (seen v)) ((into v).1 (walk.0, walk.1, (on walk.0).1 near)) (not-of (seen v) unseen)

-- who was seen, or is on the next level, has a walk of at most so many edges
pub seen-more : (edge : Conn → Conn → Bool) (end : Conn) (m : ℕ) (seen next now : Conn → Bool)
    → ((v : Conn) → (seen v ≡ true) ↔ ((j : ℕ) × (j < m) × Walk edge end j v))
    → ((v : Conn) → (next v ≡ true) ↔ IsAway edge end m v)
    → ((v : Conn) → now v ≡ (seen v || next v))
    → (v : Conn) → (now v ≡ true) ↔ ((j : ℕ) × (j < m + 1) × Walk edge end j v)
seen-more edge end m seen next now past on is v = (there, back) where
  there : now v ≡ true → (j : ℕ) × (j < m + 1) × Walk edge end j v
  there h = elim (or_cases (seen v) (next v) (sym (is v) ∙ h)) [
    | inl t ↦ let w : (j : ℕ) × (j < m) × Walk edge end j v = (past v).0 t in (w.0, omega arith, w.2)
    | inr t ↦ (m, omega arith, ((on v).0 t).walk)
  ]

  last : Walk edge end m v → now v ≡ true
  last walk = elim (cases_Bool (seen v)) [
    | inl t ↦ is v ∙ or-left (seen v) (next v) t
    | inr f ↦ is v ∙ or-right (seen v) (next v) ((on v).1 (record {
      walk = walk;
      no_less = λ j l w. both_ways (seen v) f ((past v).1 (j, l, w));
    }))
  ]

  back : (j : ℕ) × (j < m + 1) × Walk edge end j v → now v ≡ true
  back w = elim (cases_lt w.0 m) [
    | inl l ↦ is v ∙ or-left (seen v) (next v) ((past v).1 (w.0, l, w.2))
    | inr g ↦
        let e : w.0 ≡ m = omega arith in
        let P : ℕ → Type 0 = λ j. Walk edge end j v in
        last (subst P e w.2)
  ]

-- no walk of fewer edges, or the shortest one
scan : (edge : Conn → Conn → Bool) (end v : Conn) (n : ℕ)
    → ((k : ℕ) → k < n → IsAway edge end k v ⊎ (IsAway edge end k v → ⊥))
    → ((k : ℕ) × (k < n) × IsAway edge end k v) ⊎ ((j : ℕ) → j < n → Walk edge end j v → ⊥)
scan edge end v zero tell = inr (λ j l w. absurd (omega arith))
scan edge end v (suc n) tell =
    elim (scan edge end v n (λ k l. tell k (omega arith))) [
      | inl w ↦ inl (w.0, omega arith, w.2)
      | inr none ↦ elim (tell n (omega arith)) [
        | inl here ↦ inl (n, omega arith, here)
        | inr not_here ↦ inr (λ j l w. elim (cases_lt j n) [
          | inl less ↦ none j less w
          | inr more ↦
              let e : j ≡ n = omega arith in
              let P : ℕ → Type 0 = λ i. Walk edge end i v in
              not_here (record { walk = subst P e w; no_less = none })
        ])
      ]
    ]

-- where there is a walk there is a shortest one
pub shortest-walk : (edge : Conn → Conn → Bool) (end v : Conn) (n j : ℕ) → j < n
    → ((k : ℕ) → k < n → IsAway edge end k v ⊎ (IsAway edge end k v → ⊥))
    → Walk edge end j v → (k : ℕ) × (k ≤ j) × IsAway edge end k v
shortest-walk edge end v n j l tell walk =
    elim (scan edge end v (suc j) (λ k m. tell k (omega arith))) [
      | inl w ↦ (w.0, omega arith, w.2)
      | inr none ↦ absurd (none j (omega arith) walk)
    ]

-- the levels with one more written
pub levels-more : (sets : List Edges) (end : Conn) (levels : List Edges) (k : ℕ) (next : Edges) → k < length levels
    → AreLevels sets end levels k
    → ((v : Conn) → (has_edge next v ≡ true) ↔ IsAway (leads sets) end k v)
    → AreLevels sets end (set levels k next) (k + 1)
levels-more sets end levels k next l known on j v m =
    elim (cases_eq j k) [
      | inl e ↦
          let P : ℕ → Type 0 = λ n. (has_edge (set_at (set levels k next) n) v ≡ true) ↔ IsAway (leads sets) end n v in
          subst P (sym e) (rw (get_or-set_same {A = Edges} levels k next (record { 0 = 0 }) l) (on v))
      | inr n ↦ rw (get_or-set_other {A = Edges} levels k j next (record { 0 = 0 }) n) (known j v (omega arith))
    ]
