-- The total is the sum of the counts.
use Rattle.std.proofs.Common.{◌≡◌, ◌≤◌, ◌+◌, ◌-◌, ℕ, zero, suc, true, List, length, map, refl, ap, sym, subst, ◌∙◌, arith}
use Rattle.std.specs.List.{range_with_len, sum_by}
use Rattle.std.proofs.lemmas.Bool.{le-ltb}
use Rattle.std.proofs.lemmas.List.FromFn.{sum_by-map-range_with_len_more}
use Rattle.iso_locklist.specs.Lists.{IsHeads, IsSingle, holds_in, waits_in}
use Rattle.iso_locklist.specs.Places.{all_taken, are_apart, names, taken, taken_below}
use Rattle.iso_locklist.specs.Places.{Place}
use Rattle.iso_locklist.proofs.Taken.{taken_in_lists}
use Rattle.iso_queue.specs.Limits as limits
use Rattle.iso_types.specs.declared.head.Head.{Head}
use Rattle.iso_types.specs.declared.value.Conn.{Conn}

abbrev conn_of : ℕ → Conn
conn_of k = record { 0 = k }

-- connections that take nothing add nothing
below_none : (ps : List Place) (n : ℕ) → ((k : ℕ) → n ≤ k → taken ps (record { 0 = k }) ≡ 0) → (d m : ℕ) → m ≡ n + d → taken_below ps m ≡ taken_below ps n
below_none ps n none zero m e = ap (taken_below ps) (omega (arith, e))
below_none ps n none (suc d) m e =
    let f : m ≡ suc (n + d) = omega (arith, e) in
    let le : n ≤ n + d = omega arith in
    ap (taken_below ps) f ∙ omega (arith, below_none ps n none d (n + d) refl, none (n + d) le)

-- the sum over the connections below a number
below_sum : (f : Conn → ℕ) (ps : List Place) → ((c : Conn) → f c ≡ taken ps c) → (n : ℕ) → sum_by f (map conn_of (range_with_len 0 n)) ≡ taken_below ps n
below_sum f ps same zero = refl
below_sum f ps same (suc n) =
    let e : n + 1 ≡ suc n = omega arith in
    let more : sum_by f (map conn_of (range_with_len 0 (suc n))) ≡ sum_by f (map conn_of (range_with_len 0 n)) + f (conn_of n) =
    subst (λ (k : ℕ). sum_by f (map conn_of (range_with_len 0 k)) ≡ sum_by f (map conn_of (range_with_len 0 n)) + f (conn_of n)) e
    (sum_by-map-range_with_len_more f conn_of 0 n n (omega arith)) in
    omega (arith, more, below_sum f ps same n, same (conn_of n))

pub total_in_lists : (head : Head) (ps : List Place) → are_apart (names ps) ≡ true → length head.conns ≤ 32 → ((c : Conn) → IsSingle ps c) → IsHeads head ps
    → all_taken ps ≡ limits.all_taken head (holds_in ps) (waits_in ps)
unfolding all_taken
total_in_lists head ps apart le single heads =
    let n = length head.conns in
    let none : (k : ℕ) → n ≤ k → taken ps (record { 0 = k }) ≡ 0 = λ k above. heads (record { 0 = k }) (le-ltb k n above) in
    below_none ps n none (32 - n) 32 (omega (arith, le))
    ∙ sym (below_sum (limits.taken (holds_in ps) (waits_in ps)) ps (λ c. sym (taken_in_lists ps c apart (single c))) n)
