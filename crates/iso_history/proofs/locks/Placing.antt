-- Requests placed one after the other: what each step keeps, all keep.
use Rattle.std.proofs.Common.{◌≡◌, Bool, true, false, List, [], ◌∷◌, map, refl, ap, sym, subst, Some, None, Option, filter}
use Rattle.std.specs.Option.{option_map_or}
use Rattle.iso_queue.specs.Locks.{Hold, Request, added, all_placed, held, holds_at_least, is_covered, is_covered_on, placed}
use Rattle.iso_modes.specs.Modes.{at_least, covers}
use Rattle.iso_modes.specs.declared.Mode.{Mode}
use Rattle.iso_types.specs.Head.{table_of}
use Rattle.iso_types.specs.declared.head.Head.{Head}
use Rattle.iso_types.specs.declared.value.Conn.{Conn}
use Rattle.iso_types.specs.declared.value.Name.{Name}
use Rattle.iso_types.specs.declared.value.Name.TheVariants.{Table}
use Rattle.iso_types.specs.declared.value.TableId.{TableId}

-- each request meets the condition on the holds at which its turn comes
abbrev pub AllAlong : (List Hold → Request → Type 0) → Head → Conn → List Hold → List Request → Type 0
AllAlong P head c hs [] = Unit {0}
AllAlong P head c hs (r ∷ rs) = P hs r × AllAlong P head c (placed head hs c r) rs

-- each element
abbrev pub EachOf : {A : Type 0} → (A → Type 0) → List A → Type 0
EachOf P [] = Unit {0}
EachOf P (x ∷ xs) = P x × EachOf P xs

module _ (head : Head) (c : Conn) where
  placed-covered : (hs : List Hold) (r : Request) → is_covered head hs c r.name r.mode ≡ true → placed head hs c r ≡ hs
  placed-covered hs r e = rw e refl

  placed-added : (hs : List Hold) (r : Request) → is_covered head hs c r.name r.mode ≡ false → placed head hs c r ≡ added hs c r
  placed-added hs r e = rw e refl

  -- what an added request keeps, a placed one keeps
  pub placed-keeps : (Q : List Hold → Type 0) (hs : List Hold) (r : Request)
      → (is_covered head hs c r.name r.mode ≡ false → Q hs → Q (added hs c r)) → Q hs → Q (placed head hs c r)
  placed-keeps Q hs r step q = go (is_covered head hs c r.name r.mode) refl
    where
      go : (b : Bool) → is_covered head hs c r.name r.mode ≡ b → Q (placed head hs c r)
      go true e = subst Q (sym (placed-covered hs r e)) q
      go false e = subst Q (sym (placed-added hs r e)) (step e q)

  -- what each keeps where its condition holds, all keep
  pub all-keep : (P : List Hold → Request → Type 0) (Q : List Hold → Type 0)
      → ((hs : List Hold) (r : Request) → is_covered head hs c r.name r.mode ≡ false → P hs r → Q hs → Q (added hs c r))
      → (hs : List Hold) (rs : List Request) → AllAlong P head c hs rs → Q hs → Q (all_placed head hs c rs)
  all-keep P Q step hs [] a q = q
  all-keep P Q step hs (r ∷ rs) a q =
      all-keep P Q step (placed head hs c r) rs a.1 (placed-keeps Q hs r (λ e. step hs r e a.0) q)

  -- a condition that asks nothing of the holds
  pub along-each : (P : Request → Type 0) (hs : List Hold) (rs : List Request) → EachOf P rs → AllAlong (λ xs r. P r) head c hs rs
  along-each P hs [] each = tt
  along-each P hs (r ∷ rs) each = (each.0, along-each P (placed head hs c r) rs each.1)

  -- where a fact that all keep gives the conditions
  pub all-along : (P : List Hold → Request → Type 0) (Q : List Hold → Type 0)
      → ((hs : List Hold) (r : Request) → Q hs → Q (added hs c r))
      → (rs : List Request) → EachOf (λ r. (hs : List Hold) → Q hs → P hs r) rs → (hs : List Hold) → Q hs → AllAlong P head c hs rs
  all-along P Q step [] each hs q = tt
  all-along P Q step (r ∷ rs) each hs q =
      (each.0 hs q, all-along P Q step rs each.1 (placed head hs c r) (placed-keeps Q hs r (λ e. step hs r) q))

-- two lists in which the same is held
abbrev pub HeldAlike : List Hold → List Hold → Type 0
HeldAlike xs ys = (d : Conn) (k : Name) → held xs d k ≡ held ys d k

pub covered-alike : (head : Head) (xs ys : List Hold) (c : Conn) (n : Name) (m : Mode) → HeldAlike xs ys → is_covered head xs c n m ≡ is_covered head ys c n m
covered-alike head xs ys c n m same = go (table_of head n)
  where
    go : (t : Option TableId) → option_map_or (is_covered_on xs c m) t false ≡ option_map_or (is_covered_on ys c m) t false
    go None = refl
    go (Some t) = ap (λ (x : Option Mode). option_map_or (λ h. covers h m) x false) (same c (Table t))

pub at_least-alike : (xs ys : List Hold) (c : Conn) (n : Name) (m : Mode) → HeldAlike xs ys → holds_at_least xs c n m ≡ holds_at_least ys c n m
at_least-alike xs ys c n m same = ap (λ (x : Option Mode). option_map_or (λ h. at_least h m) x false) (same c n)

-- each element that a filter keeps
pub each-filter : {A : Type 0} (P : A → Type 0) (q : A → Bool) (xs : List A) → EachOf (λ x. q x ≡ true → P x) xs → EachOf P (filter q xs)
each-filter P q [] each = tt
each-filter P q (x ∷ xs) each = go (q x) refl (each-filter P q xs each.1)
  where
    go : (b : Bool) → q x ≡ b → EachOf P (filter q xs) → EachOf P (filter q (x ∷ xs))
    go true e rest = rw e (each.0 e, rest)
    go false e rest = rw e rest

pub each-map : {A B : Type 0} (P : B → Type 0) (f : A → B) (xs : List A) → EachOf (λ x. P (f x)) xs → EachOf P (map f xs)
each-map P f [] each = tt
each-map P f (x ∷ xs) each = (each.0, each-map P f xs each.1)

pub each-all : {A : Type 0} (P : A → Type 0) → ((x : A) → P x) → (xs : List A) → EachOf P xs
each-all P h [] = tt
each-all P h (x ∷ xs) = (h x, each-all P h xs)
