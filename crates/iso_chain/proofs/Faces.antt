-- Undoing the records of a slot's chain, from its head, gives the contents of its versions from last to first.
use Rattle.std.proofs.Common.{◌≡◌, true, false, List, [], ◌∷◌, refl, ap, sym, ◌∙◌, Some, None, Option, subst}
use Rattle.std.specs.Prelude.{IfSome, is_some}
use Rattle.iso_history.specs.Recorded.{LeadsTo, kept}
use Rattle.iso_history.specs.Versions.{present}
use Rattle.iso_history.specs.World.{Version}
use Rattle.iso_record.specs.Undone.{Face, restored, shown, undone}
use Rattle.iso_record.specs.declared.record.Change.{Change}
use Rattle.iso_record.specs.declared.record.Change.TheVariants.{Delete, Insert, Undone, Update}
use Rattle.iso_types.specs.declared.value.Value.{Value}
use Rattle.iso_chain.specs.Slots.{FaceStands}

-- a row that is present is kept
pub kept-present : (vs : List Version) (row : List Value) → present vs ≡ Some row → kept vs ≡ Some row
kept-present [] row e = absurd (cc)
kept-present (v ∷ vs) row e = rw e refl

-- a face that stands shows what is present
pub face-shows : (f : Face) (vs : List Version) → FaceStands f vs → shown f ≡ present vs
face-shows f vs s = go (present vs) refl
  where
    go : (o : Option (List Value)) → present vs ≡ o → shown f ≡ o
    go None e = let dead : f.live ≡ false = s.live ∙ ap is_some e in rw dead refl
    go (Some row) e =
        let live : f.live ≡ true = s.live ∙ ap is_some e in
        let is : f.row ≡ row = subst (λ (o : Option (List Value)). IfSome o (λ x. f.row ≡ x)) (kept-present vs row e) s.row in
        rw live (ap Some is)

-- one record undone: the face stands for the versions below
pub undone-face : (change : Change) (f : Face) (v : Version) (vs : List Version) → v.pending ≡ true → LeadsTo change vs v.row
    → FaceStands f (v ∷ vs) → FaceStands (undone change f) vs
undone-face Insert f v vs p leads s = subst (λ (l : List Version). FaceStands (undone Insert f) l) (sym leads.1) (record { row = tt; live = refl })
undone-face (Update olds) f v vs p (new, is, old, columns) s =
    let row : f.row ≡ new = subst (λ (o : Option (List Value)). IfSome o (λ x. f.row ≡ x)) (kept-present (v ∷ vs) new is) s.row in
    record {
      row = rw (kept-present vs (restored olds new) old) (ap (restored olds) row);
      live = s.live ∙ ap is_some is ∙ sym (ap is_some old);
    }
undone-face Delete f v vs p (none, some) s = go (present vs) refl
  where
    go : (o : Option (List Value)) → present vs ≡ o → FaceStands (undone Delete f) vs
    go None e = absurd (let k : is_some (present vs) ≡ false = ap is_some e in cc)
    go (Some row) e =
        let under : kept (v ∷ vs) ≡ Some row = rw (none, p) e in
        let is : f.row ≡ row = subst (λ (o : Option (List Value)). IfSome o (λ x. f.row ≡ x)) under s.row in
        record { row = rw (kept-present vs row e) is; live = sym (ap is_some e) }
undone-face (Undone n) f v vs p leads s = absurd leads
