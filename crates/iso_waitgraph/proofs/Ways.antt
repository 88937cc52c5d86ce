-- The least way back to a connection is the chosen cycle through it.
use Rattle.std.proofs.Common.{◌≡◌, ℕ, zero, suc, ◌<◌, ◌≤◌, ◌⊎◌, inl, inr, Bool, true, false, List, [], ◌∷◌, ◌++◌, length, refl, sym, ◌∙◌, ap, subst, arith, append_assoc, append-nil}
use Rattle.std.proofs.lemmas.Bool.{cases_lt, ne_eqb}
use Rattle.iso_types.specs.Cycles.{AreDifferent, IsCycle, IsUpTo, Leads, is_among}
use Rattle.iso_types.specs.declared.value.Conn.{Conn}
use Rattle.iso_waitgraph.specs.Walks.{Falls, IsAway, IsLeastWay, IsNoNearer, Walk}

pub conn-is : (c d : Conn) → c.0 ≡ d.0 → c ≡ d
conn-is c d e = ap (λ (n : ℕ). let r : Conn = record { 0 = n } in r) e

-- a list of edges is a walk
pub walk-of : (edge : Conn → Conn → Bool) (end at : Conn) (ds : List Conn) → Leads edge at ds end → Walk edge end (suc (length ds)) at
walk-of edge end at [] h = (end, h, refl)
walk-of edge end at (d ∷ ds) h = (d, h.0, walk-of edge end d ds h.1)

-- a walk to a nearer connection, by one edge more
nearer : (edge : Conn → Conn → Bool) (end v w : Conn) (k : ℕ) → IsAway edge end (suc k) v → edge v w ≡ true → Walk edge end k w → IsAway edge end k w
nearer edge end v w k h e walk = record { walk = walk; no_less = λ j l less. h.no_less (suc j) (omega arith) (w, e, less) }

pub next-on : (edge : Conn → Conn → Bool) (end v : Conn) (k : ℕ) → IsAway edge end (suc k) v → (w : Conn) × (edge v w ≡ true) × IsAway edge end k w
next-on edge end v k h = (h.walk.0, h.walk.1, nearer edge end v h.walk.0 k h h.walk.1 h.walk.2)

pub next-nearest : (edge : Conn → Conn → Bool) (end v : Conn) (k : ℕ) → IsAway edge end (suc k) v → IsNoNearer edge end k v
next-nearest edge end v k h w j e l walk = h.no_less (suc j) (omega arith) (w, e, walk)

-- the least next connection, and the least way on from it
pub way-longer : (edge : Conn → Conn → Bool) (end at next : Conn) (k : ℕ) (ds : List Conn)
    → IsNoNearer edge end (suc k) at → edge at next ≡ true → IsAway edge end (suc k) next
    → ((w : Conn) → edge at w ≡ true → IsAway edge end (suc k) w → next.0 ≤ w.0)
    → IsLeastWay edge end next k ds → IsLeastWay edge end at (suc k) (next ∷ ds)
way-longer edge end at next k ds near e away least h = record { falls = (away, h.falls); way = (e, h.way); least = up_to } where
  up_to : (es : List Conn) → Leads edge at es end → length es ≡ suc k → IsUpTo (next ∷ ds) es
  up_to [] way same = absurd (omega arith)
  up_to (x ∷ es) way same =
      let short : length es ≡ k = omega arith in
      let P : ℕ → Type 0 = λ n. Walk edge end n x in
      let walk : Walk edge end (suc k) x = subst P (ap suc short) (walk-of edge end x es way.1) in
      let first : next.0 ≤ x.0 = least x way.0 (record { walk = walk; no_less = λ j l less. near x j way.0 l less }) in
      elim (cases_lt next.0 x.0) [
        | inl l ↦ inl l
        | inr g ↦
            let here : next ≡ x = conn-is next x (omega arith) in
            let Q : Conn → Type 0 = λ c. Leads edge c es end in
            inr (here, h.least es (subst Q (sym here) way.1) short)
      ]

-- no way on where the end is next
pub way-none : (edge : Conn → Conn → Bool) (end at w : Conn) → edge at w ≡ true → IsAway edge end 0 w → IsLeastWay edge end at 0 []
way-none edge end at w e h =
    let P : Conn → Type 0 = λ c. edge at c ≡ true in
    record { falls = tt; way = subst P h.walk e; least = λ es way same. tt }

pub falls-length : (edge : Conn → Conn → Bool) (end : Conn) (k : ℕ) (ds : List Conn) → Falls edge end k ds → length ds ≡ k
falls-length edge end zero [] h = refl
falls-length edge end zero (d ∷ ds) h = absurd h
falls-length edge end (suc k) [] h = absurd h
falls-length edge end (suc k) (d ∷ ds) h = let e : length ds ≡ k = falls-length edge end k ds h.1 in omega arith

-- who is not 1 to k edges away is not in a list that falls from k
apart : (edge : Conn → Conn → Bool) (end v : Conn) (m k : ℕ) (ds : List Conn) → IsAway edge end m v → (m ≡ 0) ⊎ (k < m) → Falls edge end k ds → is_among v ds ≡ false
apart edge end v m zero [] h out f = refl
apart edge end v m zero (d ∷ ds) h out f = absurd f
apart edge end v m (suc k) [] h out f = absurd f
apart edge end v m (suc k) (d ∷ ds) h out f =
    let not_here : v.0 ≡ d.0 → ⊥ = λ e.
    let same : v ≡ d = conn-is v d e in
    let P : Conn → Type 0 = λ c. IsAway edge end m c in
    let away : IsAway edge end m d = subst P same h in
    elim out [
      | inl none ↦ f.0.no_less m (omega arith) away.walk
      | inr more ↦ away.no_less (suc k) more f.0.walk
    ] in
    let rest : is_among v ds ≡ false = apart edge end v m k ds h (elim out [ inl none ↦ inl none | inr more ↦ inr (omega arith) ]) f.1 in
    rw (ne_eqb v.0 d.0 not_here) rest

different : (edge : Conn → Conn → Bool) (end : Conn) (k : ℕ) (ds : List Conn) → Falls edge end k ds → AreDifferent ds
different edge end k [] f = tt
different edge end zero (d ∷ ds) f = absurd f
different edge end (suc k) (d ∷ ds) f = (apart edge end d (suc k) k ds f.0 (inr (omega arith)) f.1, different edge end k ds f.1)

at-end : (edge : Conn → Conn → Bool) (end : Conn) → IsAway edge end 0 end
at-end edge end = record { walk = refl; no_less = λ j l walk. absurd (omega arith) }

-- a least way back is a cycle
pub way-cycle : (edge : Conn → Conn → Bool) (start : Conn) (k : ℕ) (ds : List Conn) → IsLeastWay edge start start k ds → IsCycle edge (start ∷ ds)
way-cycle edge start k ds h = ((apart edge start start 0 k ds (at-end edge start) (inl refl) h.falls, different edge start k ds h.falls), h.way)

-- the least way on completes the list that was written to the least way back
abbrev pub Completes : (Conn → Conn → Bool) → Conn → ℕ → Conn → ℕ → List Conn → Type 0
Completes edge start last at left cycle =
    (ds : List Conn) → IsLeastWay edge start at left ds → (es : List Conn) × (cycle ++ ds ≡ start ∷ es) × IsLeastWay edge start start last es

pub completes-more : (edge : Conn → Conn → Bool) (start : Conn) (last : ℕ) (at next : Conn) (k : ℕ) (cycle : List Conn)
    → IsNoNearer edge start (suc k) at → edge at next ≡ true → IsAway edge start (suc k) next
    → ((w : Conn) → edge at w ≡ true → IsAway edge start (suc k) w → next.0 ≤ w.0)
    → Completes edge start last at (suc k) cycle → Completes edge start last next k (cycle ++ next ∷ [])
completes-more edge start last at next k cycle near e away least h ds way =
    let t : (es : List Conn) × (cycle ++ (next ∷ ds) ≡ start ∷ es) × IsLeastWay edge start start last es =
    h (next ∷ ds) (way-longer edge start at next k ds near e away least way) in
    (t.0, append_assoc cycle (next ∷ []) ds ∙ t.1, t.2)

pub completes-none : (edge : Conn → Conn → Bool) (start : Conn) (last : ℕ) (at w : Conn) (cycle : List Conn)
    → edge at w ≡ true → IsAway edge start 0 w → Completes edge start last at 0 cycle
    → (es : List Conn) × (cycle ≡ start ∷ es) × IsLeastWay edge start start last es
completes-none edge start last at w cycle e away h =
    let t : (es : List Conn) × (cycle ++ [] ≡ start ∷ es) × IsLeastWay edge start start last es = h [] (way-none edge start at w e away) in
    (t.0, sym (append-nil cycle) ∙ t.1, t.2)

-- where there is a walk back there is a shortest one, and it is a cycle
pub falls-from : (edge : Conn → Conn → Bool) (end at w : Conn) (k : ℕ) → edge at w ≡ true → IsAway edge end k w
    → (ds : List Conn) × Falls edge end k ds × Leads edge at ds end
falls-from edge end at w zero e h = ([], tt, let P : Conn → Type 0 = λ c. edge at c ≡ true in subst P h.walk e)
falls-from edge end at w (suc k) e h =
    let n : (v : Conn) × (edge w v ≡ true) × IsAway edge end k v = next-on edge end w k h in
    let t : (ds : List Conn) × Falls edge end k ds × Leads edge w ds end = falls-from edge end w n.0 k n.1 n.2 in
    (w ∷ t.0, (h, t.1), (e, t.2))

pub away-cycle : (edge : Conn → Conn → Bool) (start w : Conn) (k : ℕ) → edge start w ≡ true → IsAway edge start k w
    → (ds : List Conn) × IsCycle edge (start ∷ ds)
away-cycle edge start w k e h =
    let t : (ds : List Conn) × Falls edge start k ds × Leads edge start ds start = falls-from edge start start w k e h in
    (t.0, ((apart edge start start 0 k t.0 (at-end edge start) (inl refl) t.1, different edge start k t.0 t.1), t.2))
