-- What a row that fits asks of the slot that it goes into, and what a head without an index leaves of an entry.
use Rattle.std.proofs.Common.{◌≡◌, ◌≤◌, ℕ, zero, suc, Bool, true, false, ◌&&◌, List, [], ◌∷◌, length, refl, ap, sym, ◌∙◌, arith, subst, Some, None, Option}
use Rattle.std.specs.List.{list_all}
use Rattle.std.specs.Option.{option_map_or}
use Rattle.std.specs.Prelude.{IfSome, nat_le, slice_get}
use Rattle.std.proofs.lemmas.Bool.Decides.{nat_tests}
use Rattle.iso_chain.proofs.Faces.{kept-present}
use Rattle.iso_chain.specs.Slots.{slot_in}
use Rattle.iso_history.proofs.log.Fitted.{equally-wide, present-fits}
use Rattle.iso_history.proofs.log.Logged.{Seen, seen}
use Rattle.iso_history.specs.After.{world}
use Rattle.iso_history.specs.Versions.{versions}
use Rattle.iso_history.specs.Writes.{may_change}
use Rattle.iso_state.proofs.FactsAlong.{beside-of, rows-of}
use Rattle.iso_state.specs.Stands.{Content, Stands}
use Rattle.iso_types.specs.Head.{all_fit, fits_column, row_fits}
use Rattle.iso_types.specs.declared.head.Column.{Column}
use Rattle.iso_types.specs.declared.head.Head.{Head}
use Rattle.iso_types.specs.declared.head.TableDef.{TableDef}
use Rattle.iso_types.specs.declared.value.Conn.{Conn}
use Rattle.iso_types.specs.declared.value.Rid.{Rid}
use Rattle.iso_types.specs.declared.value.TableId.{TableId}
use Rattle.iso_types.specs.declared.value.Value.{Value}

second-of : (a b : Bool) → (a && b) ≡ true → b ≡ true
second-of true b h = h
second-of false b h = absurd (cc)

first-of : (a b : Bool) → (a && b) ≡ true → a ≡ true
first-of true b h = refl
first-of false b h = absurd (cc)

columns-wide : (cs : List Column) (row : List Value) → all_fit cs row ≡ true → length row ≡ length cs
columns-wide [] [] h = refl
columns-wide [] (v ∷ vs) h = absurd (cc)
columns-wide (c ∷ cs) [] h = absurd (cc)
columns-wide (c ∷ cs) (v ∷ vs) h = let k = columns-wide cs vs (second-of (fits_column c v) (all_fit cs vs) h) in omega (arith, k)

-- a table of the head has few columns
columns-few : (ds : List TableDef) (n : ℕ) (d : TableDef) → list_all (λ d. nat_le (length d.columns) 8) ds ≡ true → slice_get ds n ≡ Some d
    → length d.columns ≤ 8
columns-few [] n d all e = absurd (cc)
columns-few (x ∷ xs) zero d all e =
    let is : x ≡ d = cc e in
    let le = first-of (nat_le (length x.columns) 8) (list_all (λ d. nat_le (length d.columns) 8) xs) all in
    subst (λ (z : TableDef). length z.columns ≤ 8) is (grind (arith, nat_tests, le))
columns-few (x ∷ xs) (suc n) d all e =
    columns-few xs n d (second-of (nat_le (length x.columns) 8) (list_all (λ d. nat_le (length d.columns) 8) xs) all) e

-- so a row that fits it is short
pub row-short : (head : Head) (t : TableId) (row : List Value) → list_all (λ d. nat_le (length d.columns) 8) head.tables ≡ true
    → row_fits head t row ≡ true → length row ≤ 256
row-short head t row all fits = go (slice_get head.tables t.0) refl fits
  where
    go : (o : Option TableDef) → slice_get head.tables t.0 ≡ o → option_map_or (λ d. all_fit d.columns row) o false ≡ true → length row ≤ 256
    go None e h = absurd (cc)
    go (Some d) e h =
        let few = columns-few head.tables t.0 d all e in
        let wide = columns-wide d.columns row h in
        omega (arith, few, wide)

-- what may be changed is there
pub seen-of : (p : Content) (c : Conn) (t : TableId) (r : Rid) → Stands p → may_change p.head (world p.head p.history) c t r ≡ true
    → Seen (world p.head p.history) t r
seen-of p c t r s may = seen p.head (world p.head p.history) c t r (beside-of s c t r may) may

-- the new row is as wide as the slot's
pub new-wide : (p : Content) (c : Conn) (t : TableId) (r : Rid) (new : List Value) → Stands p → may_change p.head (world p.head p.history) c t r ≡ true
    → row_fits p.head t new ≡ true → length new ≡ length (slot_in p.chain.tables t r).row
new-wide p c t r new s may fits =
    let w = world p.head p.history in
    let old = seen-of p c t r s may in
    let is : (slot_in p.chain.tables t r).row ≡ old.row =
    subst (λ (o : Option (List Value)). IfSome o (λ x. (slot_in p.chain.tables t r).row ≡ x)) (kept-present (versions w t r) old.row old.shows)
    (s.parts.chain.slots.each t r).face.row in
    equally-wide p.head t new old.row fits (present-fits p.head t (versions w t r) old.row (rows-of s t r) old.shows) ∙ ap length (sym is)
