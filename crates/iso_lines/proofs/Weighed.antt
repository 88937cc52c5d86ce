-- How many names pass a test, told by any list of those that do.
use Rattle.std.proofs.Common.{◌≡◌, ◌∙◌, ℕ, Bool, true, false, ◌&&◌, List, [], ◌∷◌, is_some, length, filter, refl, sym, ap}
use Rattle.std.proofs.lemmas.List.Sums.{length-filter}
use Rattle.std.proofs.lemmas.Map.Made.{IsDistinct-keys_filter, is_some-lookup}
use Rattle.std.proofs.lemmas.Map.Views.{any-filter_same}
use Rattle.std.specs.List.{IsDistinct, list_any}
use Rattle.std.specs.Map.{keys_of}
use Rattle.std.specs.Prelude.{count_by}
use Rattle.iso_types.specs.Ids.{name_eq}
use Rattle.iso_types.specs.declared.value.Name.{Name}
use Rattle.iso_lines.proofs.Counted.{counted_names}
use Rattle.iso_lines.proofs.Same.{name_is}
use Rattle.iso_lines.proofs.Tests.{same_names}
use Rattle.iso_lines.specs.Named.{key_of, same}

-- the keys of the entries whose names pass
keys_left : (w : Name → Bool) (es : List (Name × ℕ)) → keys_of (filter (λ e. w e.0) es) ≡ filter w (keys_of es)
keys_left w [] = refl
keys_left w (e ∷ es) = by (w e.0) refl (keys_left w es)
  where
    by : (b : Bool) → w e.0 ≡ b → keys_of (filter (λ e. w e.0) es) ≡ filter w (keys_of es) → keys_of (filter (λ e. w e.0) (e ∷ es)) ≡ filter w (keys_of (e ∷ es))
    by true f ih = rw f (ap (λ (l : List Name). e.0 ∷ l) ih)
    by false f ih = rw f ih

implied : (a b : Bool) → (a ≡ true → b ≡ true) → (a && b) ≡ a
implied true b h = h refl
implied false b h = refl

module _ (es : List (Name × ℕ)) (w : Name → Bool) (unique : IsDistinct same (keys_of es)) (there : (n : Name) → w n ≡ true → is_some (key_of es n) ≡ true) where
  pub weighed_members : (n : Name) → is_some (key_of (filter (λ (e : Name × ℕ). w e.0) es) n) ≡ w n
  weighed_members n =
      is_some-lookup (same n) (filter (λ (e : Name × ℕ). w e.0) es)
      ∙ ap (list_any (same n)) (keys_left w es)
      ∙ any-filter_same (same n) w (w n) (λ k e. ap w (sym (name_is n k (sym (same_names n k) ∙ e)))) (keys_of es)
      ∙ implied (w n) (list_any (same n) (keys_of es)) (λ h. sym (is_some-lookup (same n) es) ∙ there n h)

  pub weighed_names : (ns : List Name) → IsDistinct name_eq ns → ((n : Name) → list_any (name_eq n) ns ≡ w n) → count_by (λ (e : Name × ℕ). w e.0) es ≡ length ns
  weighed_names ns distinct passing =
      sym (length-filter (λ (e : Name × ℕ). w e.0) es)
      ∙ counted_names (filter (λ (e : Name × ℕ). w e.0) es) (IsDistinct-keys_filter same (λ (e : Name × ℕ). w e.0) es unique) ns distinct (λ n. weighed_members n ∙ sym (passing n))
