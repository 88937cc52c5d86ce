use Rattle.std.proofs.Common.{◌≡◌, ◌∙◌, ◌++◌, ◌∷◌, map, ℕ, List, [], ap, sym, arith, length}
use Rattle.std.specs.List.{range_with_len}
use Rattle.std.proofs.lemmas.List.{map-append}
use Rattle.std.proofs.lemmas.List.FromFn.{map-range_with_len_more}
use Rattle.iso_key.specs.Pages.{entries}
use Rattle.iso_types.specs.declared.value.Rid.{Rid}
use Rattle.iso_types.specs.declared.value.Value.{Value}
use Rattle.iso_state.specs.Firsts.{first_keys}
use Rattle.iso_state.proofs.FirstKeys.{keys-of-numbers}
use Rattle.iso_state.proofs.keys.first_indexes.Goals as goal

pub loop-at-preserved : goal.loop-at-preserved
loop-at-preserved c =
    ap (λ (l : List (List (List (Value × Rid)))). map entries l) c.in_ok-push.ensures.ok
    ∙ map-append entries c.loop-at.indexes (c.in_ok-index_at.field-0 ∷ [])
    ∙ ap (λ (l : List (List (Value × Rid))). l ++ entries c.in_ok-index_at.field-0 ∷ []) c.loop-at.invariant
    ∙ ap (λ (r : List (Value × Rid)). map (λ k. first_keys c.args.head.now (record { 0 = k })) (range_with_len 0 c.loop-at.at) ++ r ∷ []) c.in_ok-index_at.ensures
    ∙ sym (map-range_with_len_more (λ k. first_keys c.args.head.now (record { 0 = k })) 0 c.loop-at.at c.loop-at.at (omega arith))

pub returns : goal.returns
returns c =
    let all : c.loop-at.at ≡ length c.args.head.now.indexes = omega (arith, c.loop-at-test.false, c.loop-at.auto.at-end, c.len-at-end.ensures) in
    c.loop-at.invariant
    ∙ ap (λ (n : ℕ). map (λ k. first_keys c.args.head.now (record { 0 = k })) (range_with_len 0 n)) all
    ∙ keys-of-numbers c.args.head.now (range_with_len 0 (length c.args.head.now.indexes))
