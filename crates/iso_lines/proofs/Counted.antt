-- Names without a double are as many as any others with the same members.
use Rattle.std.proofs.Common.{◌≡◌, ◌∙◌, ℕ, suc, List, [], ◌∷◌, is_some, length, refl, sym, ap, subst}
use Rattle.std.proofs.lemmas.Map.Made.{is_some-lookup, length-from_same_keys}
use Rattle.std.specs.List.{IsDistinct, list_any}
use Rattle.std.specs.Map.{keys_of}
use Rattle.iso_types.specs.contracts.value.NameEq.TheImpl.Laws.{laws-law}
use Rattle.iso_types.specs.Ids.{name_eq}
use Rattle.iso_types.specs.declared.value.Name.{Name}
use Rattle.iso_lines.proofs.Tests.{same_test}
use Rattle.iso_lines.specs.Named.{key_of, same}

pub length_keys : (es : List (Name × ℕ)) → length es ≡ length (keys_of es)
length_keys [] = refl
length_keys (e ∷ es) = ap suc (length_keys es)

pub counted_names : (es : List (Name × ℕ)) → IsDistinct same (keys_of es) → (ns : List Name) → IsDistinct name_eq ns → ((n : Name) → is_some (key_of es n) ≡ list_any (name_eq n) ns)
    → length es ≡ length ns
counted_names es unique ns distinct members =
    length_keys es
    ∙ length-from_same_keys laws-law (keys_of es) ns unique (subst (λ t. IsDistinct t ns) (sym same_test) distinct)
    (λ q. sym (is_some-lookup (same q) es) ∙ members q ∙ sym (ap (λ t. list_any (t q) ns) same_test))
