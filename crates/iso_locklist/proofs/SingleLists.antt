-- Who holds no name twice in the lists holds none twice in its line.
use Rattle.std.proofs.Common.{◌≡◌, Bool, true, false, ◌&&◌, List, [], ◌∷◌, refl, ap, ◌∙◌, arith}
use Rattle.std.specs.Prelude.{count_by, filter}
use Rattle.iso_locklist.specs.Lists.{IsSingle, IsSingleIn, holds_in, named_hold, waits_in}
use Rattle.iso_locklist.specs.Places.{are_apart, line_at, names, one}
use Rattle.iso_locklist.specs.Places.{Place}
use Rattle.iso_locklist.proofs.Lists.{holds_of_name, is_hold}
use Rattle.iso_locklist.proofs.Settles.{gone, kept}
use Rattle.iso_locklist.proofs.Taken.{count_cons, count_map}
use Rattle.iso_queue.specs.Locks as locks
use Rattle.iso_types.specs.Ids.{conn_eq, name_eq}
use Rattle.iso_types.specs.declared.value.Conn.{Conn}

-- those that pass both tests
pub count_both : {X : Type 0} (t a b : X → Bool) (xs : List X) → ((x : X) → t x ≡ (a x && b x)) → count_by t xs ≡ count_by a (filter b xs)
count_both t a b [] is = refl
count_both t a b (x ∷ xs) is = go (a x) (b x) refl refl (count_both t a b xs is)
  where
    both : {p q : Bool} → a x ≡ p → b x ≡ q → (a x && b x) ≡ (p && q)
    both e f = rw (e, f) refl

    and_false : (p : Bool) → (p && false) ≡ false
    and_false true = refl
    and_false false = refl

    go : (p q : Bool) → a x ≡ p → b x ≡ q → count_by t xs ≡ count_by a (filter b xs) → count_by t (x ∷ xs) ≡ count_by a (filter b (x ∷ xs))
    go true true e f ih = omega (
      arith,
      count_cons t x xs,
      ap one (is x),
      ap one (both e f),
      ap (count_by a) (kept b x xs f),
      count_cons a x
          (filter b xs),
      ap one e,
      ih,
    )
    go false true e f ih = omega (
      arith,
      count_cons t x xs,
      ap one (is x),
      ap one (both e f),
      ap (count_by a) (kept b x xs f),
      count_cons a x
          (filter b xs),
      ap one e,
      ih,
    )
    go p false e f ih = omega (arith, count_cons t x xs, ap one (is x), ap one (both e f), ap one (and_false p), ap (count_by a) (gone b x xs f), ih)

pub single_in : (ps : List Place) (c : Conn) → are_apart (names ps) ≡ true → IsSingleIn (holds_in ps) (waits_in ps) c → IsSingle ps c
single_in ps c apart single = record {
  holds = λ n.
      let same : count_by (locks.is_hold_of c n) (holds_in ps) ≡ count_by (λ h. conn_eq h.conn c) (line_at ps n).holders =
      count_both (locks.is_hold_of c n) (λ h. conn_eq h.conn c) (λ h. name_eq h.name n) (holds_in ps) (is_hold c n)
      ∙ ap (count_by (λ h. conn_eq h.conn c)) (holds_of_name ps n apart) ∙ count_map (λ h. conn_eq h.conn c) (named_hold n) (line_at ps n).holders in
      omega (arith, same, single.holds n);
  waits = single.waits;
}
