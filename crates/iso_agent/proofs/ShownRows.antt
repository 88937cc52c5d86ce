-- The row that a look of an open statement shows may be told to its task.
use Rattle.std.proofs.Common.{◌≡◌, ◌≤◌, ◌<◌, ◌+◌, ℕ, Bool, true, false, List, [], ◌∷◌, refl, sym, ap, subst, Option, Some, arith, if◌then◌else◌}
use Rattle.std.proofs.lemmas.Bool.{eqb-true}
use Rattle.std.specs.Prelude.{◌==◌}
use Rattle.iso_agent.proofs.ScanLooks.{IsLooking}
use Rattle.iso_agent.specs.Scans.{IsSoundPoint, is_scanned}
use Rattle.iso_conduct.proofs.Fitting.{reads-fit, row-long}
use Rattle.iso_conduct.specs.Courses.{MayTell, fits_table, haul_size, key_within, keyed_within, reads_within, scan_slot, suits}
use Rattle.iso_conduct.specs.Points.{Point}
use Rattle.iso_conduct.specs.declared.moves.Told.{Told}
use Rattle.iso_history.proofs.log.Fitted.{present-fits}
use Rattle.iso_history.specs.Fitted.{AllFit, Fits, RowsFit}
use Rattle.iso_history.specs.Looks.{shown}
use Rattle.iso_history.specs.Units.{unit_of}
use Rattle.iso_history.specs.Versions.{committed, is_pending_beside, present, versions, view_of}
use Rattle.iso_history.specs.World.{Version, World}
use Rattle.iso_history.specs.declared.entry.Want.{Want}
use Rattle.iso_history.specs.declared.entry.Want.TheVariants.{Dirty}
use Rattle.iso_sql.specs.declared.statement.Statement.{Statement}
use Rattle.iso_sql.specs.declared.statement.Statement.TheVariants as st
use Rattle.iso_types.specs.Head.{row_fits}
use Rattle.iso_types.specs.declared.head.Head.{Head}
use Rattle.iso_types.specs.declared.value.Conn.{Conn}
use Rattle.iso_types.specs.declared.value.Rid.{Rid}
use Rattle.iso_types.specs.declared.value.TableId.{TableId}
use Rattle.iso_types.specs.declared.value.Value.{Value}

-- ---- what is shown fits its table

committed-fits : (head : Head) (t : TableId) (vs : List Version) (row : List Value) → AllFit head t vs → committed vs ≡ Some row → row_fits head t row ≡ true
committed-fits head t [] row h e = absurd (cc)
committed-fits head t (v ∷ vs) row h e = go v.pending (λ k. committed-fits head t vs row h.1 k) e
  where
    go : (b : Bool) → (committed vs ≡ Some row → row_fits head t row ≡ true) → (if b then committed vs else v.row) ≡ Some row → row_fits head t row ≡ true
    go true ih k = ih k
    go false ih k = subst (λ (o : Option (List Value)). Fits head t o) k h.0

view-fits : (head : Head) (t : TableId) (u : ℕ) (vs : List Version) (row : List Value) → AllFit head t vs → view_of u vs ≡ Some row
    → row_fits head t row ≡ true
view-fits head t u vs row h e = go (is_pending_beside u vs) e
  where
    go : (b : Bool) → (if b then committed vs else present vs) ≡ Some row → row_fits head t row ≡ true
    go true k = committed-fits head t vs row h k
    go false k = present-fits head t vs row h k

shown-fits : (head : Head) (w : World) (c : Conn) (t : TableId) (r : Rid) (want : Want) (row : List Value) → RowsFit head w.tables
    → shown w c t r want ≡ Some row → row_fits head t row ≡ true
shown-fits head w c t r Dirty row fits e = present-fits head t (versions w t r) row (fits t r) e
shown-fits head w c t r _ row fits e = view-fits head t (unit_of w c) (versions w t r) row (fits t r) e

-- ---- so it suits the statement

table-is : (u t : TableId) → (u.0 == t.0) ≡ true → t ≡ u
table-is u t e = ap (λ (k : ℕ). record { 0 = k }) (sym (eqb-true u.0 t.0 e))

fits-scanned : (head : Head) (s : Statement) (t : TableId) (row : List Value) → is_scanned s t ≡ true → row_fits head t row ≡ true
    → fits_table head s row ≡ true
fits-scanned head (st.Select u items cond level) t row e fits = subst (λ x. row_fits head x row ≡ true) (table-is u t e) fits
fits-scanned head (st.Update u sets cond level) t row e fits = subst (λ x. row_fits head x row ≡ true) (table-is u t e) fits
fits-scanned head (st.Delete u cond level) t row e fits = subst (λ x. row_fits head x row ≡ true) (table-is u t e) fits
fits-scanned head _ t row e fits = refl

module _ (head : Head) (w : World) (p : Point) (g : IsSoundPoint head w p) (t : TableId) (r : Rid) (look : IsLooking head w p.statement p.left t r) where
  row-suits : (row : List Value) → row_fits head t row ≡ true → suits p row ≡ true
  row-suits row fits =
      let reads : reads_within p.statement p.columns row ≡ true =
      subst (λ xs. reads_within p.statement xs row ≡ true) (sym g.columns) (reads-fit head p.statement row g.sound (fits-scanned head p.statement t row look.scanned fits)) in
      let key : key_within p.left row ≡ true = subst (λ n. keyed_within n p.left ≡ true) (sym (row-long head t row fits)) look.keyed in
      rw (reads, key) refl

  -- what is shown may be told
  pub may-tell-shown : (c : Conn) (k : Want) (fresh : Bool) → w.made ≤ 2000000 → RowsFit head w.tables → MayTell p (Told.Shown (shown w c t r k) fresh)
  may-tell-shown c k fresh few fits =
      let low : scan_slot p.left + 1 < 4294967296 = omega (arith, look.slot, few) in
      let small : haul_size p.kept + 1 < 4294967296 = omega (arith, g.few, few) in
      (low, small, λ row e. row-suits row (shown-fits head w c t r k row fits e))
