-- Undoing a chain, record by record.
use Rattle.std.proofs.Common.{◌≡◌, ◌<◌, ◌+◌, arith, ℕ, true, false, Bool, List, [], ◌∷◌, length, refl, ap, sym, ◌∙◌, Some, None, Option, subst, ◌&&◌}
use Rattle.std.specs.List.{list_all}
use Rattle.std.specs.Prelude.{IfSome}
use Rattle.std.proofs.Math.ListN.{length-set}
use Rattle.iso_record.specs.Undone.{Face, all_undone, columns_in, restored, undone}
use Rattle.iso_record.specs.declared.record.Change.{Change}
use Rattle.iso_record.specs.declared.record.Change.TheVariants.{Delete, Insert, Undone, Update}
use Rattle.iso_record.specs.declared.record.Record.{Record}
use Rattle.iso_segment.specs.Pinned.{Pinned, item_of}
use Rattle.iso_types.specs.declared.value.Value.{Value}
use Rattle.iso_rebuild.specs.Chains.{AllIn, HasChain, IsChain, face_of}
use Rattle.iso_rebuild.specs.declared.past.Past.{Past}

-- a conjunction gives both
first-of : (a b : Bool) → (a && b) ≡ true → a ≡ true
first-of true b h = refl
first-of false b h = h

second-of : (a b : Bool) → (a && b) ≡ true → b ≡ true
second-of true b h = h
second-of false b h = absurd (cc)

-- a row keeps its width
length-restored : (olds : List (ℕ × Value)) (row : List Value) → length (restored olds row) ≡ length row
length-restored [] row = refl
length-restored (p ∷ ps) row = length-restored ps _ ∙ length-set _ _ _

pub length-undone : (c : Change) (f : Face) → length (undone c f).row ≡ length f.row
length-undone Insert f = refl
length-undone (Update olds) f = length-restored olds f.row
length-undone Delete f = refl
length-undone (Undone n) f = refl

-- a slot's records lie in one chain alone
pub chain-one : (pin : Pinned Record) (at : Option ℕ) (ns ms : List Record) → IsChain pin at ns → IsChain pin at ms → ns ≡ ms
chain-one pin at [] [] a b = refl
chain-one pin at [] (m ∷ ms) a b = absurd (cc)
chain-one pin at (n ∷ ns) [] a b = absurd (cc)
chain-one pin at (n ∷ ns) (m ∷ ms) (k, p, q, l, r) (j, s, t, u, v) =
    let same : k ≡ j = cc in
    let item : Some n ≡ Some m = sym q ∙ ap (item_of pin) same ∙ t in
    let is : n ≡ m = cc in
    rw is (ap (λ (z : List Record). m ∷ z) (chain-one pin m.prev_row ns ms (subst (λ (z : Record). IsChain pin z.prev_row ns) is r) v))

-- a chain goes on from a record that is in it
pub record Goes (pin : Pinned Record) (at : Option ℕ) (f whole : Face) : Type 0 where
  pub chain : List Record
  pub is : IsChain pin at chain
  pub columns : AllIn (length f.row) chain
  pub undone : all_undone chain f ≡ whole

-- the record that is next: its columns are in the row, its earlier record is lower, and the chain goes on from there
pub record Turns (pin : Pinned Record) (k : ℕ) (n : Record) (f whole : Face) : Type 0 where
  pub columns : columns_in (length f.row) n.change ≡ true
  pub falls : IfSome n.prev_row (λ j. j < k)
  pub rest : (g : Face) → g ≡ undone n.change f → Goes pin n.prev_row g whole

pub turns : (pin : Pinned Record) (at : Option ℕ) (k : ℕ) (n : Record) (f whole : Face) → at ≡ Some k → item_of pin k ≡ Some n
    → Goes pin at f whole → Turns pin k n f whole
turns pin at k n f whole e i goes = go goes.chain goes.is goes.columns goes.undone
  where
    go : (chain : List Record) → IsChain pin at chain → AllIn (length f.row) chain → all_undone chain f ≡ whole → Turns pin k n f whole
    go [] is columns undone = absurd (cc)
    go (m ∷ ms) (j, p, q, l, r) columns whole_is =
        let same : j ≡ k = cc in
        let item : Some m ≡ Some n = sym q ∙ ap (item_of pin) same ∙ i in
        let this : m ≡ n = cc in
        let both : (columns_in (length f.row) m.change && list_all (λ x. columns_in (length f.row) x.change) ms) ≡ true = columns in
        record {
          columns = subst (λ (z : Record). columns_in (length f.row) z.change ≡ true) this (first-of _ _ both);
          falls = subst (λ (z : ℕ). IfSome n.prev_row (λ j. j < z)) same (subst (λ (z : Record). IfSome z.prev_row (λ x. x < j)) this l);
          rest = λ g g_is. record {
            chain = ms;
            is = subst (λ (z : Record). IsChain pin z.prev_row ms) this r;
            columns = subst (λ (w : ℕ). AllIn w ms) (sym (ap (λ z. length z.row) g_is ∙ length-undone n.change f)) (second-of _ _ both);
            undone = ap (all_undone ms) (g_is ∙ ap (λ z. undone z.change f) (sym this)) ∙ whole_is;
          };
        }

-- where nothing is next, all is undone
pub goes-whole : (pin : Pinned Record) (at : Option ℕ) (f whole : Face) → at ≡ None → Goes pin at f whole → f ≡ whole
goes-whole pin at f whole e goes = go goes.chain goes.is goes.undone
  where
    go : (chain : List Record) → IsChain pin at chain → all_undone chain f ≡ whole → f ≡ whole
    go [] is undone = undone
    go (m ∷ ms) is undone = let k = is.1 in absurd (cc)

-- the whole chain goes from the head on
pub goes-first : (past : Past) → HasChain past → (whole : List Record) → IsChain past.pin (Some past.head) whole
    → Goes past.pin (Some past.head) (face_of past) (all_undone whole (face_of past))
goes-first past (chain, is, columns) whole k = record {
  chain = whole;
  is = k;
  columns = subst (AllIn (length past.row)) (chain-one past.pin (Some past.head) chain whole is k) columns;
  undone = refl;
}

-- what is next is in the pin
pub goes-there : (pin : Pinned Record) (at : Option ℕ) (k : ℕ) (f whole : Face) → at ≡ Some k → item_of pin k ≡ None → Goes pin at f whole → ⊥
goes-there pin at k f whole e i goes = go goes.chain goes.is
  where
    go : (chain : List Record) → IsChain pin at chain → ⊥
    go [] is = cc
    go (m ∷ ms) (j, p, q, l, r) = let same : j ≡ k = cc in let item : Some m ≡ None = sym q ∙ ap (item_of pin) same ∙ i in cc

-- how many records there may be from here on
abbrev pub depth : Option ℕ → ℕ
depth None = 0
depth (Some k) = k + 1

pub depth-falls : (at prev : Option ℕ) (k : ℕ) → at ≡ Some k → IfSome prev (λ j. j < k) → depth prev < depth at
depth-falls at prev k e h = rw e (go prev h)
  where
    go : (o : Option ℕ) → IfSome o (λ j. j < k) → depth o < depth (Some k)
    go None h = omega arith
    go (Some j) h = omega arith
