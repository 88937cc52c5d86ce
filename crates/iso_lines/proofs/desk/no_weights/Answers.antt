use Rattle.std.proofs.Common.{◌≡◌, ◌∙◌, ℕ, zero, suc, List, ap, length, slice_index_or, refl}
use Rattle.std.proofs.Math.ListN.{replicate}
use Rattle.std.proofs.lemmas.List.{length-replicate}
use Rattle.iso_lines.proofs.desk.no_weights.Goals as goal

all_same : (n i z : ℕ) → slice_index_or (replicate n z) i z ≡ z
all_same zero i z = refl
all_same (suc n) zero z = refl
all_same (suc n) (suc i) z = all_same n i z

pub returns : goal.returns
returns c =
    let all = c.in_ok-vec.ensures.items_if_clones_equal (λ y e. e) in
    record { size = ap (λ (l : List ℕ). length l) all ∙ length-replicate {A = ℕ} 256 0; none = λ t. ap (λ (l : List ℕ). slice_index_or l t.0 0) all ∙ all_same 256 t.0 0 }
