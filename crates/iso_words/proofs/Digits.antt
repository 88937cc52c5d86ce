-- A number that is read digit by digit, and stays at the bound once it is past it, is the number that the digits make.
use Rattle.std.proofs.Common.{◌≡◌, ℕ, ◌≤◌, ◌+◌, ◌-◌, ◌*◌, ◌&&◌, inl, inr, Bool, true, false, List, [], ◌∷◌, Option, None, refl, ap, sym, ◌∙◌, arith}
use Rattle.std.proofs.Common.{if◌then◌else◌}
use Rattle.std.specs.Prelude.{min}
use Rattle.std.proofs.Math.Nat.{min-eq_left, min-eq_right}
use Rattle.std.proofs.lemmas.Bool.{cases_lt, le-ltb}
use Rattle.iso_words.specs.Numbers.{are_digits, below, bound, has_form, is_digit, number, value_from}
use Rattle.iso_words.specs.Scan.{number_from, number_read}

past : (n : ℕ) → bound ≤ n → below n ≡ None
past n h = rw (le-ltb n bound h) refl

meets : (n : ℕ) → below (min n bound) ≡ below n
meets n = elim (cases_lt n bound) [
  | inl h ↦ let l : n ≤ bound = omega (arith, h) in ap below (min-eq_left l)
  | inr h ↦ let l : bound ≤ bound = omega arith in ap below (min-eq_right h) ∙ past bound l ∙ sym (past n h)
]

goes-on : (n d : ℕ) → min (10 * min n bound + d) bound ≡ min (10 * n + d) bound
goes-on n d = elim (cases_lt n bound) [
  | inl h ↦ let l : n ≤ bound = omega (arith, h) in ap (λ k. min (10 * k + d) bound) (min-eq_left l)
  | inr h ↦
      let e : min n bound ≡ bound = min-eq_right h in
      let l : bound ≤ 10 * min n bound + d = omega (arith, e) in
      let k : bound ≤ 10 * n + d = omega (arith, h) in
      min-eq_right l ∙ sym (min-eq_right k)
]

reads : (text : List ℕ) (n : ℕ) → number_from (min n bound) text ≡ (if are_digits text then below (value_from n text) else None)
reads [] n = meets n
reads (b ∷ bytes) n = go (is_digit b) (reads bytes (10 * n + (b - 48)))
  where
    go : (t : Bool) → number_from (min (10 * n + (b - 48)) bound) bytes ≡ (if are_digits bytes then below (value_from (10 * n + (b - 48)) bytes) else None)
        → (if t then number_from (min (10 * min n bound + (b - 48)) bound) bytes else None)
        ≡ (if t && are_digits bytes then below (value_from (10 * n + (b - 48)) bytes) else None)
    go true r = ap (λ k. number_from k bytes) (goes-on n (b - 48)) ∙ r
    go false r = refl

pub read : (text : List ℕ) → number_read text ≡ number text
read text =
    let l : 0 ≤ bound = omega arith in
    ap (λ (o : Option ℕ). if has_form text then o else None) (ap (λ k. number_from k text) (sym (min-eq_left l)) ∙ reads text 0)
