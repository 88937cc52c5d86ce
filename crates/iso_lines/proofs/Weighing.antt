-- The weights that are kept, where one name's line changes and where names come and go.
use Rattle.std.proofs.Common.{◌≡◌, ◌<◌, ◌+◌, ◌∙◌, ℕ, Bool, true, false, ◌&&◌, List, [], ◌∷◌, Option, Some, is_some, length, filter, refl, sym, ap, subst, if◌then◌else◌, arith}
use Rattle.std.proofs.lemmas.Cmp.{nat_eq_equiv}
use Rattle.std.proofs.lemmas.List.Sums.{count_by-le-length, length-filter}
use Rattle.std.proofs.lemmas.Map.Made.{IsDistinct-keys_filter, is_some-lookup, length-from_same_keys}
use Rattle.std.specs.List.{AllByRecursion, IsDistinct}
use Rattle.std.specs.Map.{keys_of}
use Rattle.std.specs.Prelude.{count_by}
use Rattle.iso_queue.specs.Lines.{hold_of, is_touched}
use Rattle.iso_types.specs.Ids.{name_eq, table_eq}
use Rattle.iso_types.specs.contracts.value.NameEq.TheImpl.Laws.{laws-law}
use Rattle.iso_types.specs.declared.value.Conn.{Conn}
use Rattle.iso_types.specs.declared.value.Name.{Name}
use Rattle.iso_types.specs.declared.value.TableId.{TableId}
use Rattle.iso_lines.proofs.Counted.{length_keys}
use Rattle.iso_lines.proofs.Pruned.{and_implied}
use Rattle.iso_lines.proofs.Same.{name_is}
use Rattle.iso_lines.proofs.Tests.{same_names}
use Rattle.iso_lines.proofs.Walked.{counted_cons, one, weighs_touched}
use Rattle.iso_lines.proofs.Weighed.{weighed_members}
use Rattle.iso_lines.specs.Named.{Named, key_of, line_of, same}
use Rattle.iso_lines.specs.Tasks.{is_within, table_in}
use Rattle.iso_lines.specs.Weighs.{IsWeighed, is_long, share, weight_of, weighs}

abbrev in_names : List (Name × ℕ) → Name → Bool
in_names es n = is_some (key_of es n)

-- names that differ from one are without it
without : (n : Name) (es : List (Name × ℕ)) → AllByRecursion (λ y. same n y ≡ false) (keys_of es) → in_names es n ≡ false
without n [] all = refl
without n (e ∷ es) all = rw all.0 (without n es all.1)

apart_all : (n : Name) (e : Name × ℕ) (es : List (Name × ℕ)) → IsDistinct same (keys_of (e ∷ es)) → n ≡ e.0 → in_names es n ≡ false
unfolding IsDistinct
apart_all n e es u is = without n es (subst (λ (m : Name). AllByRecursion (λ y. same m y ≡ false) (keys_of es)) (sym is) u.0)

later : (e : Name × ℕ) (es : List (Name × ℕ)) → IsDistinct same (keys_of (e ∷ es)) → IsDistinct same (keys_of es)
unfolding IsDistinct
later e es u = u.1

-- names of which one passes otherwise than before
module _ (n : Name) (p q : Name → Bool) (others : (m : Name) → name_eq n m ≡ false → q m ≡ p m) where
  counted_step : (es : List (Name × ℕ)) → IsDistinct same (keys_of es)
      → count_by (λ (e : Name × ℕ). q e.0) es + one (in_names es n && p n) ≡ count_by (λ (e : Name × ℕ). p e.0) es + one (in_names es n && q n)
  counted_step [] u = refl
  counted_step (e ∷ es) u = by (same n e.0) refl (counted_step es (later e es u))
    where
      is_in : (b : Bool) → same n e.0 ≡ b → in_names (e ∷ es) n ≡ is_some (if b then Some e.1 else key_of es n)
      is_in b f = ap (λ (a : Bool). is_some (if a then Some e.1 else key_of es n)) f

      by : (b : Bool) → same n e.0 ≡ b
          → count_by (λ (d : Name × ℕ). q d.0) es + one (in_names es n && p n) ≡ count_by (λ (d : Name × ℕ). p d.0) es + one (in_names es n && q n)
          → count_by (λ (d : Name × ℕ). q d.0) (e ∷ es) + one (in_names (e ∷ es) n && p n) ≡ count_by (λ (d : Name × ℕ). p d.0) (e ∷ es) + one (in_names (e ∷ es) n && q n)
      by true f ih =
          let is : n ≡ e.0 = name_is n e.0 (sym (same_names n e.0) ∙ f) in
          let out = apart_all n e es u is in
          omega (
            arith,
            ih,
            counted_cons (λ (d : Name × ℕ). q d.0) e es,
            counted_cons (λ (d : Name × ℕ). p d.0) e es,
            ap (λ (b : Bool). one (b && p n)) out,
            ap (λ (b : Bool). one (b && q n)) out,
            ap (λ (b : Bool). one (b && p n)) (is_in true f),
            ap (λ (b : Bool). one (b && q n)) (is_in true f),
            ap (λ (m : Name). one (p m)) is,
            ap (λ (m : Name). one (q m)) is,
          )
      by false f ih =
          omega (
            arith,
            ih,
            counted_cons (λ (d : Name × ℕ). q d.0) e es,
            counted_cons (λ (d : Name × ℕ). p d.0) e es,
            ap (λ (b : Bool). one (b && p n)) (is_in false f),
            ap (λ (b : Bool). one (b && q n)) (is_in false f),
            ap one (others e.0 (sym (same_names n e.0) ∙ f)),
          )

table_same : (t : TableId) → table_eq t t ≡ true
table_same t = nat_eq_equiv.refl t.0

shared : (table : Option TableId) (long : Bool) (t : TableId) → table ≡ Some t → share table long t ≡ one long
shared table long t e = rw (e, table_same t) refl

-- one name's line changes
module _ (tables : List TableId) (c : Conn) (es : List (Name × ℕ)) (unique : IsDistinct same (keys_of es)) (old new : Named) (n : Name)
    (others : (m : Name) → name_eq n m ≡ false → line_of new m ≡ line_of old m)
    (there : is_touched (line_of old n) c ≡ true → in_names es n ≡ true) (still : is_touched (line_of new n) c ≡ true → in_names es n ≡ true)
    (ws : List ℕ) (kept : IsWeighed tables old c es ws) (table : Option TableId) (its : table ≡ table_in tables n) (before after : Bool)
    (was : before ≡ is_long (hold_of (line_of old n).holders c)) (is : after ≡ is_long (hold_of (line_of new n).holders c)) where
  step : (t : TableId) → count_by (λ (e : Name × ℕ). weighs tables c t e.0 (line_of new e.0)) es + share table before t
      ≡ count_by (λ (e : Name × ℕ). weighs tables c t e.0 (line_of old e.0)) es + share table after t
  step t =
      let p = (λ (m : Name). weighs tables c t m (line_of old m)) in
      let q = (λ (m : Name). weighs tables c t m (line_of new m)) in
      let all = counted_step n p q (λ m apart. ap (weighs tables c t m) (others m apart)) es unique in
      let here = and_implied (in_names es n) (p n) (λ h. there (weighs_touched tables c t n (line_of old n) h)) in
      let now = and_implied (in_names es n) (q n) (λ h. still (weighs_touched tables c t n (line_of new n) h)) in
      let a : share table before t ≡ one (p n) = λ j. share (its j) (was j) t in
      let b : share table after t ≡ one (q n) = λ j. share (its j) (is j) t in
      omega (arith, all, ap one here, ap one now, a, b)

  pub room_more : length es < 18446744073709551616 → (t : TableId) → t.0 < 256 → table ≡ Some t → before ≡ false → after ≡ true → weight_of ws t < 18446744073709551615
  room_more small t within e f g =
      let most = count_by-le-length (λ (e : Name × ℕ). weighs tables c t e.0 (line_of new e.0)) es in
      omega (arith, small, most, kept.weights t within, step t, shared table before t e, shared table after t e, ap one f, ap one g)

  pub room_less : (t : TableId) → t.0 < 256 → table ≡ Some t → before ≡ true → after ≡ false → 0 < weight_of ws t
  room_less t within e f g = omega (arith, kept.weights t within, step t, shared table before t e, shared table after t e, ap one f, ap one g)

  pub weighed_step : (now : List ℕ) → length now ≡ 256 → ((t : TableId) → weight_of now t + share table before t ≡ weight_of ws t + share table after t)
      → IsWeighed tables new c es now
  weighed_step now size told = record { size = size; weights = λ t within. omega (arith, told t, step t, kept.weights t within) }

-- names that keep all of those that weigh
module _ (tables : List TableId) (c : Conn) (lines : Named) (es fs : List (Name × ℕ)) (unique : IsDistinct same (keys_of es)) (once : IsDistinct same (keys_of fs))
    (there : (n : Name) → is_touched (line_of lines n) c ≡ true → in_names es n ≡ true) (still : (n : Name) → is_touched (line_of lines n) c ≡ true → in_names fs n ≡ true) where
  counted_same : (t : TableId) → count_by (λ (e : Name × ℕ). weighs tables c t e.0 (line_of lines e.0)) fs ≡ count_by (λ (e : Name × ℕ). weighs tables c t e.0 (line_of lines e.0)) es
  counted_same t =
      let w = (λ (m : Name). weighs tables c t m (line_of lines m)) in
      let v = (λ (e : Name × ℕ). w e.0) in
      let a = weighed_members es w unique (λ n h. there n (weighs_touched tables c t n (line_of lines n) h)) in
      let b = weighed_members fs w once (λ n h. still n (weighs_touched tables c t n (line_of lines n) h)) in
      sym (length-filter v fs) ∙ length_keys (filter v fs)
      ∙ length-from_same_keys laws-law (keys_of (filter v fs)) (keys_of (filter v es)) (IsDistinct-keys_filter same v fs once) (IsDistinct-keys_filter same v es unique)
      (λ n. sym (is_some-lookup (same n) (filter v fs)) ∙ b n ∙ sym (a n) ∙ is_some-lookup (same n) (filter v es))
      ∙ sym (length_keys (filter v es)) ∙ length-filter v es

  pub weighed_names_moved : (ws : List ℕ) → IsWeighed tables lines c es ws → IsWeighed tables lines c fs ws
  weighed_names_moved ws kept = record { size = kept.size; weights = λ t within. kept.weights t within ∙ sym (counted_same t) }

-- where nothing moved
pub weighed_like : (tables : List TableId) (c : Conn) (old new : Named) (es fs : List (Name × ℕ)) (ws vs : List ℕ) → IsWeighed tables old c es ws
    → new ≡ old → fs ≡ es → vs ≡ ws → IsWeighed tables new c fs vs
weighed_like tables c old new es fs ws vs kept lines names weights = record {
  size = ap (λ (l : List ℕ). length l) weights ∙ kept.size;
  weights = λ t within. ap (λ (l : List ℕ). weight_of l t) weights ∙ kept.weights t within
      ∙ sym (λ j. count_by (λ (e : Name × ℕ). weighs tables c t e.0 (line_of (lines j) e.0)) (names j));
}

-- where what a line has of the connection weighs as before
pub weighed_rests : (tables : List TableId) (c : Conn) (old new : Named) (es : List (Name × ℕ)) (ws : List ℕ) → IsWeighed tables old c es ws
    → ((n : Name) → is_long (hold_of (line_of new n).holders c) ≡ is_long (hold_of (line_of old n).holders c)) → IsWeighed tables new c es ws
weighed_rests tables c old new es ws kept same = record {
  size = kept.size;
  weights = λ t within. kept.weights t within ∙ sym (all t es);
}
  where
    all : (t : TableId) (fs : List (Name × ℕ)) → count_by (λ (e : Name × ℕ). weighs tables c t e.0 (line_of new e.0)) fs
        ≡ count_by (λ (e : Name × ℕ). weighs tables c t e.0 (line_of old e.0)) fs
    all t [] = refl
    all t (e ∷ fs) =
        omega (
          arith,
          counted_cons (λ (e : Name × ℕ). weighs tables c t e.0 (line_of new e.0)) e fs,
          counted_cons (λ (e : Name × ℕ). weighs tables c t e.0 (line_of old e.0)) e fs,
          all t fs,
          ap (λ (b : Bool). one (is_within tables t e.0 && b)) (same e.0),
        )
