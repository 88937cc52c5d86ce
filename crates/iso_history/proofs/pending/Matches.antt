-- The changes that a history tells and the pending versions of a slot, one for one.
use Rattle.std.proofs.Common.{List, [], ◌∷◌, ◌≡◌, ℕ, Bool, true, false, not, ◌&&◌, refl, ap, ◌∙◌, Some, None, Option, subst, filter, find}
use Rattle.iso_history.proofs.pending.Conns.{at_conn-other, conn-is}
use Rattle.iso_history.proofs.pending.Containing.{Each}
use Rattle.iso_history.proofs.pending.Makers.{IfPending}
use Rattle.iso_history.specs.Settled.{Made}
use Rattle.iso_history.specs.World.{Version, at_conn}
use Rattle.iso_types.specs.Ids.{conn_eq}
use Rattle.iso_types.specs.declared.value.Conn.{Conn}

-- the pending ones
abbrev pub pending_of : List Version → List Version
pending_of vs = filter (λ v. v.pending) vs

-- the same numbers and rows, each made by the connection of its unit
abbrev pub Matches : (Conn → Option ℕ) → List Made → List Version → Type 0
Matches unit [] [] = Unit {0}
Matches unit (m ∷ ms) (v ∷ vs) = (m.number ≡ v.number) × (m.row ≡ v.row) × (unit m.conn ≡ Some v.unit) × Matches unit ms vs
Matches unit _ _ = ⊥

pub matches-more : (unit unit2 : Conn → Option ℕ) → ((d : Conn) (u : ℕ) → unit d ≡ Some u → unit2 d ≡ Some u) → (ms : List Made) (vs : List Version)
    → Matches unit ms vs → Matches unit2 ms vs
matches-more unit unit2 f [] [] h = tt
matches-more unit unit2 f (m ∷ ms) (v ∷ vs) h = (h.0, h.1, f m.conn v.unit h.2, matches-more unit unit2 f ms vs h.3)
matches-more unit unit2 f [] (v ∷ vs) h = absurd h
matches-more unit unit2 f (m ∷ ms) [] h = absurd h

-- tests that agree where the numbers do
pub matches-filter : (unit : Conn → Option ℕ) (p : Made → Bool) (q : Version → Bool) → ((m : Made) (v : Version) → m.number ≡ v.number → p m ≡ q v)
    → (ms : List Made) (vs : List Version) → Matches unit ms vs → Matches unit (filter p ms) (filter q vs)
matches-filter unit p q same [] [] h = tt
matches-filter unit p q same (m ∷ ms) (v ∷ vs) h = go (matches-filter unit p q same ms vs h.3) (q v) refl
  where
    go : Matches unit (filter p ms) (filter q vs) → (b : Bool) → q v ≡ b → Matches unit (filter p (m ∷ ms)) (filter q (v ∷ vs))
    go ih true e = rw (same m v h.0 ∙ e, e) (h.0, h.1, h.2, ih)
    go ih false e = rw (same m v h.0 ∙ e, e) ih
matches-filter unit p q same [] (v ∷ vs) h = absurd h
matches-filter unit p q same (m ∷ ms) [] h = absurd h

-- the changes of the other connections
abbrev pub is_not_of : Conn → Made → Bool
is_not_of c m = not (conn_eq m.conn c)

-- where no pending version is of the connection, its end leaves them
pub matches-apart : (unit : Conn → Option ℕ) (c : Conn) (ms : List Made) (vs : List Version) → Each (λ v. unit c ≡ Some v.unit → ⊥) vs → Matches unit ms vs
    → Matches (at_conn unit c None) (filter (is_not_of c) ms) vs × (find (λ m. conn_eq m.conn c) ms ≡ None)
matches-apart unit c [] [] n h = (tt, refl)
matches-apart unit c (m ∷ ms) (v ∷ vs) n h = go (matches-apart unit c ms vs n.1 h.3) (conn_eq m.conn c) refl
  where
    go : Matches (at_conn unit c None) (filter (is_not_of c) ms) vs × (find (λ m. conn_eq m.conn c) ms ≡ None) → (b : Bool) → conn_eq m.conn c ≡ b
        → Matches (at_conn unit c None) (filter (is_not_of c) (m ∷ ms)) (v ∷ vs) × (find (λ m. conn_eq m.conn c) (m ∷ ms) ≡ None)
    go ih true e = absurd (n.0 (subst (λ (z : Conn). unit z ≡ Some v.unit) (conn-is m.conn c e) h.2))
    go ih false e = (rw e (h.0, h.1, at_conn-other unit c None m.conn e ∙ h.2, ih.0), rw e ih.1)
matches-apart unit c [] (v ∷ vs) n h = absurd h
matches-apart unit c (m ∷ ms) [] n h = absurd h

-- where each is of the connection, its end leaves none
pub matches-own : (unit : Conn → Option ℕ) (c : Conn) → ((d : Conn) (u : ℕ) → unit d ≡ Some u → unit c ≡ Some u → conn_eq d c ≡ true)
    → (ms : List Made) (vs : List Version) → Each (λ v. unit c ≡ Some v.unit) vs → Matches unit ms vs → filter (is_not_of c) ms ≡ []
matches-own unit c apart [] vs n h = refl
matches-own unit c apart (m ∷ ms) (v ∷ vs) n h =
    let e : conn_eq m.conn c ≡ true = apart m.conn v.unit h.2 n.0 in
    rw e (matches-own unit c apart ms vs n.1 h.3)
matches-own unit c apart (m ∷ ms) [] n h = absurd h

-- and its first change is that of the first
pub matches-first : (unit : Conn → Option ℕ) (c : Conn) → ((d : Conn) (u : ℕ) → unit d ≡ Some u → unit c ≡ Some u → conn_eq d c ≡ true)
    → (ms : List Made) (v : Version) (vs : List Version) → unit c ≡ Some v.unit → Matches unit ms (v ∷ vs) → (m : Made) ×
    (find (λ m. conn_eq m.conn c) ms ≡ Some m) × (m.row ≡ v.row)
matches-first unit c apart [] v vs is h = absurd h
matches-first unit c apart (m ∷ ms) v vs is h = let e : conn_eq m.conn c ≡ true = apart m.conn v.unit h.2 is in (m, rw e refl, h.1)

each-tested : (P : Version → Type 0) (q : Version → Bool) (vs : List Version) → Each (λ v. q v ≡ true → P v) vs → Each P (filter q vs)
each-tested P q [] h = tt
each-tested P q (v ∷ vs) h = go (each-tested P q vs h.1) (q v) refl
  where
    go : Each P (filter q vs) → (b : Bool) → q v ≡ b → Each P (filter q (v ∷ vs))
    go ih true e = rw e (h.0 e, ih)
    go ih false e = rw e ih

pub each-pending : (P : Version → Type 0) (vs : List Version) → Each (IfPending P) vs → Each P (pending_of vs)
each-pending P vs h = each-tested P (λ v. v.pending) vs h

-- filters one after the other
module _ {X : Type 0} where
  pub filter-swap : (p q : X → Bool) (xs : List X) → filter p (filter q xs) ≡ filter q (filter p xs)
  filter-swap p q [] = refl
  filter-swap p q (x ∷ xs) = go (filter-swap p q xs) (p x) refl (q x) refl
    where
      go : filter p (filter q xs) ≡ filter q (filter p xs) → (a : Bool) → p x ≡ a → (b : Bool) → q x ≡ b → filter p (filter q (x ∷ xs)) ≡ filter q
          (filter p (x ∷ xs))
      go ih true a true b = rw (a, b) (rw a (ap (λ z. x ∷ z) ih))
      go ih true a false b = rw (a, b) ih
      go ih false a true b = rw (a, b) (rw a ih)
      go ih false a false b = rw (a, b) ih

  pub find-filter : (p q : X → Bool) (xs : List X) → find (λ x. p x && q x) xs ≡ find p (filter q xs)
  find-filter p q [] = refl
  find-filter p q (x ∷ xs) = go (find-filter p q xs) (p x) refl (q x) refl
    where
      go : find (λ x. p x && q x) xs ≡ find p (filter q xs) → (a : Bool) → p x ≡ a → (b : Bool) → q x ≡ b → find (λ x. p x && q x) (x ∷ xs) ≡ find p
          (filter q (x ∷ xs))
      go ih true a true b = rw (a, b) (rw a refl)
      go ih true a false b = rw (a, b) ih
      go ih false a true b = rw (a, b) (rw a ih)
      go ih false a false b = rw (a, b) ih
