-- The first of several outcomes that is not Done.
use Rattle.std.proofs.Common.{◌≡◌, Bool, true, false, List, [], ◌∷◌, refl, ap, sym, ◌∙◌, if◌then◌else◌}
use Rattle.iso_history.specs.Versions.{is_changed_beside}
use Rattle.iso_history.specs.World.{World}
use Rattle.iso_history.specs.Writes.{Written, judged_rivals, minus, or_else, view_has}
use Rattle.iso_history.specs.Writes.Written.{AtLimit, Blocks, Done, IsFull, Refuses}
use Rattle.iso_modes.specs.declared.Mode.TheVariants.{Ns}
use Rattle.iso_types.specs.Ids.{rid_eq}
use Rattle.iso_types.specs.declared.head.Head.{Head}
use Rattle.iso_types.specs.declared.value.Conn.{Conn}
use Rattle.iso_types.specs.declared.value.IndexId.{IndexId}
use Rattle.iso_types.specs.declared.value.Name.TheVariants.{Row}
use Rattle.iso_types.specs.declared.value.Rid.{Rid}
use Rattle.iso_types.specs.declared.value.TableId.{TableId}
use Rattle.iso_types.specs.declared.value.Value.{Value}
use Rattle.iso_writes.specs.Walk.{is_done, others}

pub done-is : (a : Written) → is_done a ≡ true → a ≡ Done
done-is Done e = refl
done-is IsFull e = absurd (cc)
done-is (Refuses code) e = absurd (cc)
done-is (Blocks n m) e = absurd (cc)
done-is AtLimit e = absurd (cc)

-- one that is not Done comes before all others
pub stops-at : (a b : Written) → is_done a ≡ false → a ≡ or_else a b
stops-at Done b e = absurd (cc)
stops-at IsFull b e = refl
stops-at (Refuses code) b e = refl
stops-at (Blocks n m) b e = refl
stops-at AtLimit b e = refl

-- one that is Done leaves what comes after it
pub goes-on : (a b : Written) → is_done a ≡ true → or_else a b ≡ b
goes-on a b e = ap (λ (x : Written). or_else x b) (done-is a e)

module _ (head : Head) (w : World) (c : Conn) (t : TableId) (i : IndexId) where
  first-of : (p : Value × Rid) (ps : List (Value × Rid)) → judged_rivals head w c t i (p ∷ ps)
      ≡ or_else (judged_rivals head w c t i (p ∷ [])) (judged_rivals head w c t i ps)
  first-of p ps = go (is_changed_beside w c t p.1) (view_has head w c t i p.0 p.1)
    where
      go : (a b : Bool) → (if a then Blocks (Row t p.1) Ns else if b then Refuses (minus 803) else judged_rivals head w c t i ps)
          ≡ or_else (if a then Blocks (Row t p.1) Ns else if b then Refuses (minus 803) else Done) (judged_rivals head w c t i ps)
      go true b = refl
      go false true = refl
      go false false = refl

  -- the first entry of the key, and then the others
  pub entry-first : (own : Rid) (p : Value × Rid) (ps : List (Value × Rid)) → judged_rivals head w c t i (others own (p ∷ ps))
      ≡ or_else (judged_rivals head w c t i (others own (p ∷ []))) (judged_rivals head w c t i (others own ps))
  entry-first own p ps = go (rid_eq p.1 own) refl
    where
      go : (b : Bool) → rid_eq p.1 own ≡ b → judged_rivals head w c t i (others own (p ∷ ps))
          ≡ or_else (judged_rivals head w c t i (others own (p ∷ []))) (judged_rivals head w c t i (others own ps))
      go true e = rw e refl
      go false e = rw e (first-of p (others own ps))

  module _ (own : Rid) (p : Value × Rid) (left rest : List (Value × Rid)) (is : left ≡ p ∷ rest) (x : Written)
      (judged : x ≡ judged_rivals head w c t i (others own (p ∷ []))) (b : Bool) (tested : b ≡ is_done x) where
    split : or_else x (judged_rivals head w c t i (others own rest)) ≡ judged_rivals head w c t i (others own left)
    split =
        ap (λ (y : Written). or_else y (judged_rivals head w c t i (others own rest))) judged
        ∙ sym (entry-first own p rest) ∙ ap (λ (l : List (Value × Rid)). judged_rivals head w c t i (others own l)) (sym is)

    -- the first that is in the way is what all come to
    pub passed-on : b ≡ false → x ≡ judged_rivals head w c t i (others own left)
    passed-on e = stops-at x (judged_rivals head w c t i (others own rest)) (sym tested ∙ e) ∙ split

    -- where it is not in the way, the rest decides
    pub kept-on : b ≡ true → judged_rivals head w c t i (others own rest) ≡ judged_rivals head w c t i (others own left)
    kept-on e = sym (goes-on x (judged_rivals head w c t i (others own rest)) (sym tested ∙ e)) ∙ split

  -- where none is left nothing is in the way
  pub ended : (own : Rid) (left : List (Value × Rid)) → left ≡ [] → Done ≡ judged_rivals head w c t i (others own left)
  ended own left e = ap (λ (l : List (Value × Rid)). judged_rivals head w c t i (others own l)) (sym e)
