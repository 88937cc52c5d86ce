-- Along a history the rows that a statement is to change show what was kept of them, and each is locked before its change.
use Rattle.std.proofs.Common.{◌≡◌, ◌⊎◌, inl, inr, Bool, true, false, List, [], ◌∷◌, refl, ap, sym, ◌∙◌, subst, Option, if◌then◌else◌}
use Rattle.iso_conduct.proofs.Heard.{made-heard}
use Rattle.iso_conduct.proofs.Open.{eq-same}
use Rattle.iso_conduct.specs.Answers.{AreAnswers}
use Rattle.iso_conduct.specs.Conduct.{ends, heard, is_by, made}
use Rattle.iso_conduct.specs.Parts.{Part}
use Rattle.iso_conduct.specs.Parts.Part.{Asks, EntryLook, Frees, IndexScan, NewRow, RowDelete, RowUpdate, Settles, TableScan, Undos}
use Rattle.iso_conduct.specs.Points.{Haul, Point, behind, told_all}
use Rattle.iso_conduct.specs.declared.moves.Told.{Told}
use Rattle.iso_history.proofs.pending.Conns.{no-both}
use Rattle.iso_history.specs.After.{after}
use Rattle.iso_history.specs.Facts.{IsSound}
use Rattle.iso_history.specs.Fitted.{RowsFit}
use Rattle.iso_history.specs.Guards.{is_end, is_free_at}
use Rattle.iso_history.specs.Legal.{Allowed}
use Rattle.iso_history.specs.Makers.{by_agent}
use Rattle.iso_history.specs.Stops.{is_full}
use Rattle.iso_history.specs.World.{World}
use Rattle.iso_history.specs.declared.entry.Act.{Act}
use Rattle.iso_history.specs.declared.entry.Act.TheVariants.{Commit, Delete, Free, Insert, Rollback, Stopped, Undo, Update}
use Rattle.iso_history.specs.declared.entry.Cause.TheVariants.{History}
use Rattle.iso_history.specs.declared.entry.Entry.{Entry}
use Rattle.iso_modes.specs.declared.Mode.TheVariants.{X}
use Rattle.iso_standing.proofs.KeptRows.{AllBefore, Below, Seen, Such}
use Rattle.iso_standing.proofs.RowLooks.{Shows, Stands, rid_of}
use Rattle.iso_standing.proofs.RowNeeds.{AllRows, Beside, NamesSuch, Written, names-any, rows-on, tail-rows}
use Rattle.iso_standing.proofs.RowTold.{PointRows, RowAsked, told_all-rows}
use Rattle.iso_standing.proofs.RowsFirm.{Firm, firm-other, firm-own, firm-seen, seen-once}
use Rattle.iso_standing.proofs.RowsHeard.{IsTold, act-told, ask-told}
use Rattle.iso_standing.proofs.RowsLocked.{LocksRow, locked-stays}
use Rattle.iso_standing.proofs.RowsMade.{calm-made, delete-made, free-made, is_calm, is_calm_part, made-is, made_by, update-made}
use Rattle.iso_standing.proofs.RowsSeen.{LeavesRow, Sees, seen-other, seen-own}
use Rattle.iso_standing.proofs.RowsShown.{look-told, next-told}
use Rattle.iso_types.specs.declared.head.Head.{Head}
use Rattle.iso_types.specs.declared.value.Conn.{Conn}
use Rattle.iso_types.specs.declared.value.Name.TheVariants.{Row}
use Rattle.iso_types.specs.declared.value.Rid.{Rid}
use Rattle.iso_types.specs.declared.value.TableId.{TableId}
use Rattle.iso_types.specs.declared.value.Value.{Value}

-- ---- acts

-- an entry that ends no statement ends no unit
end-ends : (a : Act) → ends a ≡ false → is_end a ≡ false
end-ends Commit h = cc
end-ends (Rollback code reason) h = cc
end-ends Act.Ended h = cc
end-ends _ h = refl

-- the first part asks for a row; it is of a scan
abbrev asks_row : List Part → Bool
asks_row (Asks (Row t r) m ∷ ps) = true
asks_row _ = false

abbrev scans : List Part → Bool
scans (TableScan t want n ∷ ps) = true
scans (IndexScan k at ∷ ps) = true
scans (EntryLook k key r ∷ ps) = true
scans _ = false

-- what else is first shows no row, and stands at no entry
shows-none : (head : Head) (see : Seen) (firm : Such) (kept : Haul) (sh : Option (List Value)) (ps : List Part) → scans ps ≡ false
    → Shows head see firm kept ps sh
shows-none head see firm kept sh [] e = tt
shows-none head see firm kept sh (TableScan t want n ∷ ps) e = absurd (cc)
shows-none head see firm kept sh (EntryLook k key r ∷ ps) e = absurd (cc)
shows-none head see firm kept sh (x ∷ ps) e = tt

stands-none : (key : Value) (r : Rid) (ps : List Part) → scans ps ≡ false → Stands ps key r
stands-none key r [] e = tt
stands-none key r (IndexScan k at ∷ ps) e = absurd (cc)
stands-none key r (x ∷ ps) e = tt

calm-frees : (t : TableId) (r : Rid) (a : Act) → is_calm a ≡ true → is_free_at t r a ≡ false
calm-frees t r (Free u q) h = cc
calm-frees t r _ h = refl

module _ (head : Head) (w : World) (s : IsSound head w) (c : Conn) where
  calm-leaves : (t : TableId) (r : Rid) (a : Act) → is_calm a ≡ true → LeavesRow head w s c t r a
  calm-leaves t r (Insert u q row) h = cc
  calm-leaves t r (Update u q row) h = cc
  calm-leaves t r (Delete u q) h = cc
  calm-leaves t r (Undo n) h = cc
  calm-leaves t r Commit h = cc
  calm-leaves t r _ h = tt

  -- what the point needs
  abbrev pub Rows : World → Point → Type 0
  Rows v p = PointRows head (Sees v c) (Firm v c) (LocksRow head v c) p

  -- another's entry leaves it
  pub others-leave : (e : Entry) → Allowed head w e → is_by c e.who ≡ false → (p : Point) → Rows w p → Rows (after head w e) p
  others-leave e al o p n =
      let v = after head w e in
      rows-on head p.statement p.columns (Sees w c) (Sees v c) (Firm w c) (Firm v c) (λ t q. Unit {0})
      (λ t r row u h. seen-other head w s c e al o t r row h) (λ t r u f. firm-other head w s c e al o t r f) (LocksRow head w c) (LocksRow head v c)
      (λ t r u l. locked-stays head w c s.locks e al (rw o refl) t r l) p.kept p.left (names-any p.kept p.left) n

  -- ---- an own entry

  module _ (fit : RowsFit head w.tables) (p : Point) (a : Act) (al : Allowed head w (by_agent c a)) (goes : ends a ≡ false) where
    -- the world behind it, and what parts of the statement need in this world and in that one
    abbrev later : World
    later = after head w (by_agent c a)

    abbrev Now : Haul → List Part → Type 0
    Now = AllRows head p.statement p.columns (Sees w c) (Firm w c) (LocksRow head w c)

    abbrev Later : Haul → List Part → Type 0
    Later = AllRows head p.statement p.columns (Sees later c) (Firm later c) (LocksRow head later c)

    -- of the rows that are such, which it leaves, it leaves what is needed
    own-on : (such : Such) → ((t : TableId) (r : Rid) (row : List Value) → such t r → Sees w c t r row → Sees later c t r row) → (kept : Haul) (ps : List Part)
        → NamesSuch such kept ps → Now kept ps → Later kept ps
    own-on such seen kept ps names n =
        rows-on head p.statement p.columns (Sees w c) (Sees later c) (Firm w c) (Firm later c) such seen
        (λ t r u f. firm-own head w s c a al (end-ends a goes) t r f) (LocksRow head w c) (LocksRow head later c)
        (λ t r u l. locked-stays head w c s.locks (by_agent c a) al (rw (eq-same c, goes) refl) t r l) kept ps names n

    own-leave : (such : Such) → ((t : TableId) (r : Rid) → such t r → LeavesRow head w s c t r a)
        → ((t : TableId) (r : Rid) → such t r → is_free_at t r a ≡ false) → (kept : Haul) (ps : List Part) → NamesSuch such kept ps
        → Now kept ps → Later kept ps
    own-leave such leaves free kept ps names n =
        own-on such (λ t r row u h. seen-own head w s c a al (end-ends a goes) t r row (leaves t r u) (free t r u) h) kept ps names n

    -- the point that is told
    abbrev Goal : Type 0
    Goal = Rows later (told_all p (heard w later c a))

    module _ (is : made head w c p ≡ a) where
      answered : AreAnswers p (heard w later c a)
      answered = subst (λ x. AreAnswers p (heard w later c x)) is (made-heard head w later c p)

      -- where the needs go on, and what is heard is as they ask
      moved-rows : Rows later p → IsTold head w c s p a → Goal
      moved-rows n told = told_all-rows head (Sees later c) (Firm later c) (seen-once later c) (LocksRow head later c) p
          (heard w later c a) answered n told

      calm-rows : is_calm a ≡ true → Rows w p → Rows later p
      calm-rows calm n =
          own-leave (λ t q. Unit {0}) (λ t r u. calm-leaves t r a calm) (λ t r u. calm-frees t r a calm) p.kept p.left (names-any p.kept p.left) n

      -- where the first part asks for no row, and is of no scan, nothing is asked of what is heard
      other-told : (ps : List Part) → p.left ≡ ps → asks_row ps ≡ false → scans ps ≡ false → IsTold head w c s p a
      other-told ps e ask scan = act-told head c (Sees later c) (Firm later c) (LocksRow head later c) p w later
          (λ t r m rest f. absurd (no-both (ap asks_row (sym e ∙ f)) ask))
          (λ sh. subst (λ z. Shows head (Sees later c) (Firm later c) p.kept z sh) (sym e) (shows-none head (Sees later c) (Firm later c) p.kept sh ps scan))
          (λ key r. subst (λ z. Stands z key r) (sym e) (stands-none key r ps scan)) a

      module _ (ps : List Part) (e : p.left ≡ ps) where
        no-row : asks_row ps ≡ false → (g : Written) → RowAsked g p.left
        no-row ask g t r m rest f = absurd (no-both (ap asks_row (sym e ∙ f)) ask)

        same : made_by head w c p ps ≡ a
        same = sym (made-is head w c p ps e) ∙ is

        is-calm : is_calm_part ps ≡ true → is_calm a ≡ true
        is-calm k = subst (λ z. is_calm z ≡ true) same (calm-made head w c p ps k)

        made-allowed : Allowed head w (by_agent c (made_by head w c p ps))
        made-allowed = subst (λ x. Allowed head w (by_agent c x)) (sym same) al

        told-as : IsTold head w c s p (made_by head w c p ps) → IsTold head w c s p a
        told-as told = subst (IsTold head w c s p) same told

        back-to : Later p.kept ps → Rows later p
        back-to n = subst (Later p.kept) (sym e) n

        -- the first part is done
        done-rows : (b : Act) → a ≡ b → heard w later c b ≡ Told.Done ∷ [] → Later p.kept (behind ps) → Goal
        done-rows b f done n = subst (λ ts. Rows later (told_all p ts)) (sym (ap (heard w later c) f ∙ done))
            (subst (λ x. Later p.kept (behind x)) (sym e) n)

        is-is : (b : Act) → (made_by head w c p ps ≡ b) ⊎ (is_calm (made_by head w c p ps) ≡ true) → (a ≡ b) ⊎ (is_calm a ≡ true)
        is-is b (inl k) = inl (sym same ∙ k)
        is-is b (inr k) = inr (subst (λ z. is_calm z ≡ true) same k)

      -- a change leaves the rows of other rids
      beside-rows : (t : TableId) (r : Rid) (b : Act) → a ≡ b → ((u : TableId) (q : Rid) → (q ≡ r → ⊥) → LeavesRow head w s c u q b)
          → ((u : TableId) (q : Rid) → is_free_at u q b ≡ false) → (kept : Haul) (ps : List Part) → NamesSuch (Beside r) kept ps
          → Now kept ps → Later kept ps
      beside-rows t r b f leaves free kept ps names n = own-leave (Beside r)
          (λ u q other. subst (LeavesRow head w s c u q) (sym f) (leaves u q other))
          (λ u q other. subst (λ z. is_free_at u q z ≡ false) (sym f) (free u q)) kept ps names n

      -- the steps of a scan
      scan-rows : (ps : List Part) (e : p.left ≡ ps) → is_calm_part ps ≡ true → Rows w p → IsTold head w c s p (made_by head w c p ps) → Goal
      scan-rows ps e calm n told = moved-rows (calm-rows (is-calm ps e calm) n) (told-as ps e told)

      -- by the first part
      by : (ps : List Part) → p.left ≡ ps → Now p.kept ps → Rows w p → Goal
      by [] e m n = moved-rows (calm-rows (is-calm [] e refl) n) (other-told [] e refl refl)
      by (Asks (Row t r) k ∷ ps) e m n =
          let x : p.left ≡ Asks (Row t r) X ∷ ps = e ∙ ap (λ z. Asks (Row t r) z ∷ ps) m.0.0 in
          scan-rows (Asks (Row t r) X ∷ ps) x refl n (ask-told head w c s p t r ps x (made-allowed (Asks (Row t r) X ∷ ps) x))
      by (TableScan t want k ∷ ps) e m n = scan-rows (TableScan t want k ∷ ps) e refl n
          (look-told head w c s p fit t (rid_of k) want (Below k) m.0.1 (no-row (TableScan t want k ∷ ps) e refl)
          (λ see firm sh shows firms. subst (λ z. Shows head see firm p.kept z sh) (sym e) (shows, firms)) (made-allowed (TableScan t want k ∷ ps) e))
      by (IndexScan k at ∷ ps) e m n =
          scan-rows (IndexScan k at ∷ ps) e refl n (next-told head w c s p k at ps e (made-allowed (IndexScan k at ∷ ps) e))
      by (EntryLook k key r ∷ ps) e m n = scan-rows (EntryLook k key r ∷ ps) e refl n
          (look-told head w c s p fit k.table r k.want (AllBefore k.column (key, r)) m.0.1 (no-row (EntryLook k key r ∷ ps) e refl)
          (λ see firm sh shows firms. subst (λ z. Shows head see firm p.kept z sh) (sym e) (shows, firms)) (made-allowed (EntryLook k key r ∷ ps) e))
      by (RowUpdate t r row ∷ ps) e m n = go (is-is (RowUpdate t r row ∷ ps) e (Update t r row) (update-made head w c p t r row ps))
        where
          go : (a ≡ Update t r row) ⊎ (is_calm a ≡ true) → Goal
          go (inl f) = done-rows (RowUpdate t r row ∷ ps) e (Update t r row) f refl
              (beside-rows t r (Update t r row) f (λ u q no x y. no y) (λ u q. refl) p.kept ps m.0.3 m.1)
          go (inr k) = moved-rows (calm-rows k n) (other-told (RowUpdate t r row ∷ ps) e refl refl)
      by (RowDelete t r ∷ ps) e m n = go (is-is (RowDelete t r ∷ ps) e (Delete t r) (delete-made head w c p t r ps))
        where
          go : (a ≡ Delete t r) ⊎ (is_calm a ≡ true) → Goal
          go (inl f) = done-rows (RowDelete t r ∷ ps) e (Delete t r) f refl
              (beside-rows t r (Delete t r) f (λ u q no x y. no y) (λ u q. refl) p.kept ps m.0.2 m.1)
          go (inr k) = moved-rows (calm-rows k n) (other-told (RowDelete t r ∷ ps) e refl refl)
      by (Frees t r ∷ ps) e m n = go (is-is (Frees t r ∷ ps) e (Free t r) (free-made head w c p t r ps))
        where
          go : (a ≡ Free t r) ⊎ (is_calm a ≡ true) → Goal
          go (inl f) = done-rows (Frees t r ∷ ps) e (Free t r) f refl (own-on (Firm w c)
              (λ u q row firm h. firm-seen head w s c a al (end-ends a goes) u q row (subst (LeavesRow head w s c u q) (sym f) tt) firm h) p.kept ps m.0 m.1)
          go (inr k) = moved-rows (calm-rows k n) (other-told (Frees t r ∷ ps) e refl refl)
      by (NewRow t row ∷ ps) e m n =
          moved-rows (back-to (NewRow t row ∷ ps) e (m.0, tail-rows head p.statement p.columns _ _ _ p.kept ps m.0))
          (other-told (NewRow t row ∷ ps) e refl refl)
      by (Undos floor ∷ ps) e m n =
          moved-rows (back-to (Undos floor ∷ ps) e (m.0, tail-rows head p.statement p.columns _ _ _ p.kept ps m.0)) (other-told (Undos floor ∷ ps) e refl refl)
      by (Settles ∷ ps) e m n = absurd (commits (is_full head w (by_agent c Commit)) (ap ends (same (Settles ∷ ps) e) ∙ goes))
        where
          commits : (b : Bool) → ends (if b then Stopped History else Commit) ≡ false → ⊥
          commits true k = cc
          commits false k = cc
      by (x ∷ ps) e m n = moved-rows (calm-rows (is-calm (x ∷ ps) e refl) n) (other-told (x ∷ ps) e refl refl)

      -- an own entry that ends no statement
      pub made-rows : Rows w p → Goal
      made-rows n = by p.left refl n n
