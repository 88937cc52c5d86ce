-- A request on a new name that is given back leaves the lock list as it was, its places in their order.
use Rattle.std.proofs.Common.{◌≡◌, ◌∙◌, Result, Ok, Err, OnErr, Bool, true, false, List, [], ◌∷◌, map, refl, sym, subst}
use Rattle.std.proofs.lemmas.Cmp.{nat_eq_equiv}
use Rattle.iso_locklist.specs.Holding.{AreLines, IsNew}
use Rattle.iso_locklist.specs.Lists.{named_hold, named_wait}
use Rattle.iso_locklist.specs.Places.{IsSameLimits, Ledger, Place, are_apart, line_at, names, nobody, released}
use Rattle.iso_locklist.proofs.Bridge.{placed}
use Rattle.iso_lines.proofs.Same.{name_is}
use Rattle.iso_locklist.proofs.Registered.{by_names}
use Rattle.iso_locklist.proofs.Taken.{all_lines}
use Rattle.iso_modes.specs.declared.Mode.{Mode}
use Rattle.iso_modes.specs.declared.Term.TheVariants.{Kept}
use Rattle.iso_queue.specs.Lines.{Line, asked, is_granted}
use Rattle.iso_queue.specs.Locks.{Hold}
use Rattle.iso_queue.specs.Queues.{Wait}
use Rattle.iso_types.specs.Ids.{conn_eq, name_eq}
use Rattle.iso_types.specs.declared.value.Conn.{Conn}
use Rattle.iso_types.specs.declared.value.Name.{Name}

-- places with the same names in the same order, and the same line of each name, are the same
pub same_places : (ps qs : List Place) → are_apart (names ps) ≡ true → are_apart (names qs) ≡ true → names ps ≡ names qs
    → ((n : Name) → line_at ps n ≡ line_at qs n) → ps ≡ qs
same_places ps qs a b same lines =
    by_names ps ps (all_lines ps a) ∙ (λ j. placed (λ n. lines n j) (same j)) ∙ sym (by_names qs qs (all_lines qs b))

no_items : {A B : Type 0} (f : A → B) (xs : List A) → map f xs ≡ [] → xs ≡ []
no_items f [] e = refl
no_items f (x ∷ xs) e = cc e

-- nobody stands in the line of a new name
pub nobody_there : (hs : List Hold) (xs : List Wait) (line : Name → Line) → AreLines hs xs line → (n : Name) → IsNew hs xs n → line n ≡ nobody
nobody_there hs xs line are n new =
    let holders = no_items (named_hold n) (line n).holders (are.holds n ∙ new.held) in
    let waiters = no_items (named_wait n) (line n).waiters (are.waits n ∙ new.awaited) in
    λ j. record { holders = holders j; waiters = waiters j }

own : (c : Conn) → conn_eq c c ≡ true
own c = nat_eq_equiv.refl c.0

grants : (c : Conn) (m : Mode) → is_granted nobody c m ≡ true
grants c m = rw (own c) refl

-- a hold on it that is given back leaves nobody
pub given_back : (c : Conn) (m : Mode) → released (asked nobody c m Kept) c ≡ nobody
given_back c m = rw (grants c m) (rw (own c) refl)

-- a ledger of the same places and limits is the same
pub same_ledger : (l k : Ledger) → l.places ≡ k.places → IsSameLimits l k → l ≡ k
same_ledger l k places limits = λ j. record {
  places = places j;
  share = limits.share j;
  slots = limits.slots j;
  index_tables = limits.index_tables j;
}

pub like_limits : (l k m : Ledger) → IsSameLimits l k → IsSameLimits k m → IsSameLimits l m
like_limits l k m a b = record { share = a.share ∙ b.share; slots = a.slots ∙ b.slots; index_tables = a.index_tables ∙ b.index_tables }

-- each line is as it was, where that of the name is and the others are
pub all_as_before : (ps qs : List Place) (n : Name) → line_at ps n ≡ line_at qs n → ((m : Name) → name_eq n m ≡ false → line_at ps m ≡ line_at qs m)
    → (m : Name) → line_at ps m ≡ line_at qs m
all_as_before ps qs n here others m = by (name_eq n m) refl
  where
    by : (b : Bool) → name_eq n m ≡ b → line_at ps m ≡ line_at qs m
    by true e = subst (λ (k : Name). line_at ps k ≡ line_at qs k) (name_is n m e) here
    by false e = others m e

-- what follows from what holds at a fault holds at it
pub fault_weaker : {A E P Q : Type 0} (r : Result A E) → (P → Q) → OnErr r P → OnErr r Q
fault_weaker (Ok a) f p = p
fault_weaker (Err e) f p = f p
