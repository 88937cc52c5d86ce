-- A change of what is kept for one name leaves the lines of all others.
use Rattle.std.specs.List.{list_any}
use Rattle.iso_queue.specs.declared.types.Hold.{Hold}
use Rattle.iso_queue.specs.declared.types.Waiter.{Waiter}
use Rattle.std.proofs.Common.{not, Result, Ok, Err, OnOk, OnErr, [], ◌∷◌, ◌||◌, ◌≡◌, ◌≢◌, ℕ, Bool, true, false, List, Option, None, Some, IsSome, is_some, slice_index_or, slice_set, unwrap_or, refl, sym, ap, subst, ◌∙◌, true≢false}
use Rattle.slab.specs.Slab.{Updates}
use Rattle.slab.proofs.SlabLemmas.{Updates-with_value}
use Rattle.std.specs.Map.{lookup}
use Rattle.std.specs.Option.{option_map_or}
use Rattle.iso_queue.specs.Lines.{Line, is_used}
use Rattle.iso_types.specs.Ids.{name_eq}
use Rattle.iso_types.specs.declared.value.Name.{Name}
use Rattle.iso_lines.proofs.Names.{name_like}
use Rattle.iso_lines.proofs.Tests.{same_names}
use Rattle.iso_lines.specs.Named.{IsNamed, Named, key_of, line_of, line_under, nobody, same}

-- the same name has the same key
pub key_like : (index : List (Name × ℕ)) (n m : Name) → name_eq n m ≡ true → key_of index n ≡ key_of index m
key_like index n m e = ap (λ t. lookup t index) (λ j o. (same_names n o ∙ name_like n m o e ∙ sym (same_names m o)) j)

-- what stands under a key
abbrev pub under : Named → ℕ → Option Line
under l k = slice_index_or l.slots k None

-- only what is kept for the name changed, and its key is no other name's
pub record IsTouched (old new : Named) (n : Name) : Type 0 where
  pub keys : (m : Name) → name_eq n m ≡ false → key_of new.index m ≡ key_of old.index m
  pub slots : (m : Name) (j : ℕ) → name_eq n m ≡ false → key_of old.index m ≡ Some j → under new j ≡ under old j
  pub stands : (k : ℕ) → key_of new.index n ≡ Some k → IsSome (under new k)
  pub alone : (m : Name) (k : ℕ) → name_eq n m ≡ false → key_of new.index n ≡ Some k → key_of old.index m ≡ Some k → ⊥

module _ (old new : Named) (n : Name) (t : IsTouched old new n) where
  -- the lines of all other names stay
  pub others-touched : (m : Name) → name_eq n m ≡ false → line_of new m ≡ line_of old m
  others-touched m apart = ap (λ o. option_map_or (line_under new.slots) o nobody) (t.keys m apart) ∙ by (key_of old.index m) refl
    where
      by : (o : Option ℕ) → key_of old.index m ≡ o → option_map_or (line_under new.slots) o nobody ≡ option_map_or (line_under old.slots) o nobody
      by None e = refl
      by (Some j) e = ap (λ s. unwrap_or s nobody) (t.slots m j apart e)

  stands-touched : IsNamed old.index old.slots → (m : Name) (k : ℕ) → key_of new.index m ≡ Some k → IsSome (under new k)
  stands-touched inv m k e = by (name_eq n m) refl
    where
      by : (b : Bool) → name_eq n m ≡ b → IsSome (under new k)
      by true same = t.stands k (key_like new.index n m same ∙ e)
      by false apart =
          let before = sym (t.keys m apart) ∙ e in
          subst IsSome (sym (t.slots m k apart before)) (inv.stands m k before)

  apart-touched : IsNamed old.index old.slots → (m p : Name) (k : ℕ) → key_of new.index m ≡ Some k → key_of new.index p ≡ Some k → name_eq m p ≡ true
  apart-touched inv m p k e f = by (name_eq n m) refl (name_eq n p) refl
    where
      by : (b : Bool) → name_eq n m ≡ b → (c : Bool) → name_eq n p ≡ c → name_eq m p ≡ true
      by true same true alike = sym (name_like n m p same) ∙ alike
      by true same false apart = absurd (t.alone p k apart (key_like new.index n m same ∙ e) (sym (t.keys p apart) ∙ f))
      by false apart true same = absurd (t.alone m k apart (key_like new.index n p same ∙ f) (sym (t.keys m apart) ∙ e))
      by false apart false off = inv.apart m p k (sym (t.keys m apart) ∙ e) (sym (t.keys p off) ∙ f)

  -- each key still has a line, and no two names have the same key
  pub named-touched : IsNamed old.index old.slots → IsNamed new.index new.slots
  named-touched inv = record { stands = stands-touched inv; apart = apart-touched inv }

-- what is something is some one thing
pub some_line : (o : Option Line) → IsSome o → (q : Line) × (o ≡ Some q)
some_line None e = absurd (true≢false (sym e))
some_line (Some q) e = (q, refl)

pub no_some : {A : Type 0} {x : A} → None ≡ Some x → ⊥
no_some e = true≢false (sym (ap is_some e))

pub same_some : {A : Type 0} {x y : A} → Some x ≡ Some y → x ≡ y
same_some {A} {x} e = ap (λ o. unwrap_or o x) e

-- the lines, with a line put under the key of a name
module _ (l : Named) (inv : IsNamed l.index l.slots) (n : Name) (k : ℕ) (at : key_of l.index n ≡ Some k) (f : Line → Line) (slots : List (Option Line))
    (set : (q : Line) → slice_index_or l.slots k None ≡ Some q → slots ≡ slice_set l.slots k (Some (f q))) where
  new : Named
  new = record { index = l.index; slots = slots }

  was : (q : Line) × (under l k ≡ Some q)
  was = some_line (under l k) (inv.stands n k at)

  updates : Updates (record { slots = l.slots; vacant_key = 0; capacity = 0 }) (record { slots = slots; vacant_key = 0; capacity = 0 }) k (Some (f was.0))
  updates =
      subst (λ s. Updates (record { slots = l.slots; vacant_key = 0; capacity = 0 }) (record { slots = s; vacant_key = 0; capacity = 0 }) k (Some (f was.0)))
      (sym (set was.0 was.1)) (Updates-with_value (record { slots = l.slots; vacant_key = 0; capacity = 0 }) k (f was.0) (inv.stands n k at))

  pub touched-written : IsTouched l (record { index = l.index; slots = slots }) n
  touched-written = record {
    keys = λ m apart. refl;
    slots = λ m j apart e. updates.others j (λ same. true≢false (sym (inv.apart n m k at (e ∙ ap Some same)) ∙ apart));
    stands = λ j e. subst (λ i. IsSome (slice_index_or slots i None)) (same_some (sym at ∙ e)) (ap is_some updates.changed);
    alone = λ m j apart e g. true≢false (sym (inv.apart n m j e g) ∙ apart);
  }

  pub line-written : line_of (record { index = l.index; slots = slots }) n ≡ f (line_of l n)
  line-written =
      ap (λ o. option_map_or (line_under slots) o nobody) at ∙ ap (λ o. unwrap_or o nobody) updates.changed
      ∙ ap f (sym (ap (λ o. option_map_or (line_under l.slots) o nobody) at ∙ ap (λ o. unwrap_or o nobody) was.1))

-- the index after a name is forgotten, and the lines without the one under its key
module _ (l new : Named) (inv : IsNamed l.index l.slots) (n : Name) (k : ℕ) (at : key_of l.index n ≡ Some k) (gone : key_of new.index n ≡ None)
    (rest : (m : Name) → same n m ≡ false → key_of new.index m ≡ key_of l.index m) (others : (j : ℕ) → j ≢ k → under new j ≡ under l j) where
  pub touched-forgotten : IsTouched l new n
  touched-forgotten = record {
    keys = λ m apart. rest m (same_names n m ∙ apart);
    slots = λ m j apart e. others j (λ alike. true≢false (sym (inv.apart n m k at (e ∙ ap Some alike)) ∙ apart));
    stands = λ j e. absurd (no_some (sym gone ∙ e));
    alone = λ m j apart e g. absurd (no_some (sym gone ∙ e));
  }

  pub line-forgotten : line_of new n ≡ nobody
  line-forgotten = ap (λ o. option_map_or (line_under new.slots) o nobody) gone

-- the index with a new name, and its line under a key that was free
module _ (l new : Named) (inv : IsNamed l.index l.slots) (n : Name) (k : ℕ) (q : Line) (at : key_of new.index n ≡ Some k)
    (rest : (m : Name) → same n m ≡ false → key_of new.index m ≡ key_of l.index m) (free : under l k ≡ None) (put : under new k ≡ Some q)
    (others : (j : ℕ) → j ≢ k → under new j ≡ under l j) where
  taken : (m : Name) → key_of l.index m ≡ Some k → ⊥
  taken m e = true≢false (sym (inv.stands m k e) ∙ ap is_some free)

  pub touched-added : IsTouched l new n
  touched-added = record {
    keys = λ m apart. rest m (same_names n m ∙ apart);
    slots = λ m j apart e. others j (λ alike. taken m (e ∙ ap Some alike));
    stands = λ j e. subst (λ i. IsSome (under new i)) (same_some (sym at ∙ e)) (ap is_some put);
    alone = λ m j apart e g. taken m (g ∙ sym e ∙ at);
  }

  pub line-added : line_of new n ≡ q
  line-added = ap (λ o. option_map_or (line_under new.slots) o nobody) at ∙ ap (λ o. unwrap_or o nobody) put

-- a line in which nobody stands is empty
pub unused : (q : Line) → is_used q ≡ false → q ≡ nobody
unused q e = by q.holders refl q.waiters refl
  where
    by : (hs : List Hold) → q.holders ≡ hs → (ws : List Waiter) → q.waiters ≡ ws → q ≡ nobody
    by [] a [] b = λ j. record { holders = a j; waiters = b j }
    by (h ∷ hs) a ws b = absurd (true≢false (sym (ap (λ xs. list_any (λ _. true) xs || list_any (λ _. true) q.waiters) a) ∙ e))
    by [] a (w ∷ ws) b = absurd (true≢false (sym (λ j. list_any (λ _. true) (a j) || list_any (λ _. true) (b j)) ∙ e))

-- what follows from an Ok, and from an Err, follows
pub either_way : {A E : Type 0} {P Q G : Type 0} (r : Result A E) → OnOk r P → OnErr r Q → (P → G) → (Q → G) → G
either_way (Ok a) p q f g = f p
either_way (Err e) p q f g = g q

-- under the name's key stands its line
pub found-line : (l : Named) → IsNamed l.index l.slots → (n : Name) (k : ℕ) → key_of l.index n ≡ Some k → under l k ≡ Some (line_of l n)
found-line l inv n k at =
    let q = some_line (under l k) (inv.stands n k at) in
    q.1 ∙ ap Some (sym (ap (λ o. option_map_or (line_under l.slots) o nobody) at ∙ ap (λ o. unwrap_or o nobody) q.1))

-- what is not so is false
pub from_not : (b : Bool) → not b ≡ true → b ≡ false
from_not true e = sym e
from_not false e = refl
