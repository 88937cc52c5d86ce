-- A slot that a connection keeps is changed by no entry of another connection.
use Rattle.std.proofs.Common.{◌≡◌, ◌<◌, ℕ, Bool, true, false, ◌&&◌, ◌||◌, List, [], ◌∷◌, refl, ap, sym, ◌∙◌, arith, subst, ◌⊎◌, inl, inr, Some, None, Option}
use Rattle.std.specs.Prelude.{◌==◌, Contains, nat_lt}
use Rattle.std.proofs.lemmas.Bool.{eqb-true}
use Rattle.std.proofs.lemmas.Bool.Decides.{nat_tests}
use Rattle.iso_history.proofs.phantoms.Members.{in-first, in-rest}
use Rattle.iso_history.proofs.phantoms.Tests.{both, join, one-of}
use Rattle.iso_history.proofs.phantoms.Finds.{find-all, find-passes}
use Rattle.iso_history.proofs.phantoms.FitHolds.{fits_hold}
use Rattle.iso_history.proofs.phantoms.Logged.{last-owned}
use Rattle.iso_history.proofs.phantoms.ModeLaws.{cover-not-ix, cover-x-ix, least-s-ns, ns-not-x, table_mode-is, table_mode-ix, x-not-is}
use Rattle.iso_history.proofs.phantoms.Names.{conn_is, of-name}
use Rattle.iso_history.proofs.phantoms.Slots.{WriteSees, dead-change}
use Rattle.iso_history.proofs.phantoms.VersionsAfter.{versions-adds, versions-settles, versions-takes, versions-writes, versions_in}
use Rattle.iso_history.specs.Facts.{GoTogether, HoldsBacked, HoldsThere, IsSound, MakersHold, UnitsApart, has_write_lock, keeps_mode}
use Rattle.iso_history.specs.Gaps.{IsFit, fits_name, is_slot_kept}
use Rattle.iso_history.specs.Orders.{VersionsLogged}
use Rattle.iso_history.specs.Legal.{ByAgent}
use Rattle.iso_history.specs.Records.{note_of}
use Rattle.iso_history.specs.Requests.{is_row_mode, table_mode}
use Rattle.iso_history.specs.Units.{unit_of}
use Rattle.iso_history.specs.Versions.{change_of, is_dead, settled_by, slots, tables_by, taken_off, versions}
use Rattle.iso_history.specs.Versions.Change.{Adds, Writes}
use Rattle.iso_history.specs.World.{Version, World}
use Rattle.iso_history.specs.declared.entry.Act.{Act}
use Rattle.iso_history.specs.declared.entry.Act.TheVariants.{Commit, Delete, Insert, Undo, Update}
use Rattle.iso_modes.specs.Modes.{at_least, compatible, covers}
use Rattle.iso_modes.specs.Terms.{is_kept}
use Rattle.iso_modes.specs.declared.Mode.{Mode}
use Rattle.iso_modes.specs.declared.Mode.TheVariants.{Ix, Ns, S, X}
use Rattle.iso_queue.specs.Locks.{Hold, hold_on, holds_at_least, is_covered_on, is_hold_of}
use Rattle.iso_types.specs.Ids.{conn_eq}
use Rattle.iso_types.specs.declared.head.Head.{Head}
use Rattle.iso_types.specs.declared.value.Conn.{Conn}
use Rattle.iso_types.specs.declared.value.Name.{Name}
use Rattle.iso_types.specs.declared.value.Name.TheVariants.{Row, Table}
use Rattle.iso_types.specs.declared.value.Rid.{Rid}
use Rattle.iso_types.specs.declared.value.TableId.{TableId}
use Rattle.iso_types.specs.declared.value.Value.{Value}

-- the hold behind a test
pub least-held : (holds : List Hold) (c : Conn) (n : Name) (low : Mode) → holds_at_least holds c n low ≡ true → (h : Hold) × (hold_on holds c n ≡ Some h)
    × (at_least h.mode low ≡ true)
least-held holds c n low e = go (hold_on holds c n) refl
  where
    go : (o : Option Hold) → hold_on holds c n ≡ o → (h : Hold) × (hold_on holds c n ≡ Some h) × (at_least h.mode low ≡ true)
    go None f = let z : false ≡ true = rw f at e in absurd (cc)
    go (Some h) f = (h, f, rw f at e)

-- the lock that covers
pub covered-held : (holds : List Hold) (c : Conn) (m : Mode) (t : TableId) → is_covered_on holds c m t ≡ true → (h : Hold)
    × (hold_on holds c (Table t) ≡ Some h) × (covers h.mode m ≡ true)
covered-held holds c m t e = go (hold_on holds c (Table t)) refl
  where
    go : (o : Option Hold) → hold_on holds c (Table t) ≡ o → (h : Hold) × (hold_on holds c (Table t) ≡ Some h) × (covers h.mode m ≡ true)
    go None f = let z : false ≡ true = rw f at e in absurd (cc)
    go (Some h) f = (h, f, rw f at e)

-- the kept hold
pub keeps-held : (holds : List Hold) (c : Conn) (n : Name) (m : Mode) → keeps_mode holds c n m ≡ true → (h : Hold) × (hold_on holds c n ≡ Some h)
    × (at_least h.mode m ≡ true)
keeps-held holds c n m e = go (hold_on holds c n) refl
  where
    go : (o : Option Hold) → hold_on holds c n ≡ o → (h : Hold) × (hold_on holds c n ≡ Some h) × (at_least h.mode m ≡ true)
    go None f = let z : false ≡ true = rw f at e in absurd (cc)
    go (Some h) f = let z : (is_kept h.term && at_least h.mode m) ≡ true = rw f at e in (h, f, (both (is_kept h.term) (at_least h.mode m) z).1)

pub keeps-least : (holds : List Hold) (c : Conn) (n : Name) (m : Mode) → keeps_mode holds c n m ≡ true → holds_at_least holds c n m ≡ true
keeps-least holds c n m e = let x = keeps-held holds c n m e in rw x.1 x.2

-- what c keeps of a slot by locks, and what d writes it by
abbrev pub is_locked : List Hold → Conn → TableId → Rid → Bool
is_locked holds c t s = is_covered_on holds c S t || holds_at_least holds c (Row t s) Ns

abbrev pub may_hold_write : List Hold → Conn → TableId → Rid → Bool
may_hold_write holds d t s = is_covered_on holds d X t || holds_at_least holds d (Row t s) X

-- the connection of a unit
pub unit-owner-of : (w : World) → UnitsApart w → (d m : Conn) → w.unit m ≡ Some (unit_of w d) → m ≡ d
unit-owner-of w units d m e = go (w.unit d) refl
  where
    go : (o : Option ℕ) → w.unit d ≡ o → m ≡ d
    go None f = let z : w.unit m ≡ Some 0 = rw f at e in absurd (omega (arith, (units.begun m 0 z).0))
    go (Some u) f = let z : w.unit m ≡ Some u = rw f at e in conn_is m d (units.apart m d u z f)

-- what a maker sees of what it writes
pub write-sees : (head : Head) (w : World) (d : Conn) (a : Act) → ByAgent head w d a → WriteSees w d (change_of a)
write-sees head w d (Update x y row) al = (both _ _ (both _ _ al.1).1).1
write-sees head w d (Delete x y) al = (both _ _ (both _ _ al.1).1).1
write-sees head w d _ al = tt

module _ (head : Head) (w : World) (sound : IsSound head w) (fit : IsFit w) (c d : Conn) (ne : conn_eq c d ≡ false) where
  -- two holds of one name that do not go together
  pub apart : (n : Name) (h g : Hold) → hold_on w.holds c n ≡ Some h → hold_on w.holds d n ≡ Some g → compatible h.mode g.mode ≡ false → ⊥
  unfolding GoTogether
  apart n h g eh eg off = let z : compatible h.mode g.mode ≡ true = sound.together c d n h g ne eh eg in let q : true ≡ false = sym z ∙ off in cc

  backed-by : (b : Conn) (t : TableId) (s : Rid) (h : Hold) → hold_on w.holds b (Row t s) ≡ Some h
      → holds_at_least w.holds b (Table t) (table_mode h.mode) ≡ true
  unfolding HoldsBacked
  backed-by b t s h e = sound.backed b (Row t s) t h refl e

  row-fit : (b : Conn) (t : TableId) (s : Rid) (h : Hold) → hold_on w.holds b (Row t s) ≡ Some h → is_row_mode h.mode ≡ true
  row-fit b t s h e = subst (λ (k : Name). fits_name k h.mode ≡ true) (of-name b (Row t s) h (find-passes (is_hold_of b (Row t s)) w.holds h e))
      (find-all (is_hold_of b (Row t s)) fits_hold w.holds h fit.holds e)

  -- c's lock on the table covers S: d does not hold it in IX or more
  pub covered-not-ix : (t : TableId) → is_covered_on w.holds c S t ≡ true → holds_at_least w.holds d (Table t) Ix ≡ true → ⊥
  covered-not-ix t e f = let x = covered-held w.holds c S t e in let y = least-held w.holds d (Table t) Ix f in
      apart (Table t) x.0 y.0 x.1 y.1 (cover-not-ix x.0.mode y.0.mode x.2 y.2)

  -- who keeps a slot, and who may write it
  pub excludes : (t : TableId) (s : Rid) → is_locked w.holds c t s ≡ true → may_hold_write w.holds d t s ≡ true → ⊥
  excludes t s e f = go (one-of (is_covered_on w.holds c S t) (holds_at_least w.holds c (Row t s) Ns) e)
      (one-of (is_covered_on w.holds d X t) (holds_at_least w.holds d (Row t s) X) f)
    where
      go : (is_covered_on w.holds c S t ≡ true) ⊎ (holds_at_least w.holds c (Row t s) Ns ≡ true) → (is_covered_on w.holds d X t ≡ true)
          ⊎ (holds_at_least w.holds d (Row t s) X ≡ true) → ⊥
      go (inl a) (inl b) = let x = covered-held w.holds c S t a in let y = covered-held w.holds d X t b in
          apart (Table t) x.0 y.0 x.1 y.1 (cover-not-ix x.0.mode y.0.mode x.2 (cover-x-ix y.0.mode y.2))
      go (inl a) (inr b) = let x = covered-held w.holds c S t a in let y = least-held w.holds d (Row t s) X b in
          let z = least-held w.holds d (Table t) (table_mode y.0.mode) (backed-by d t s y.0 y.1) in
          apart (Table t) x.0 z.0 x.1 z.1 (cover-not-ix x.0.mode z.0.mode x.2
          (table_mode-ix y.0.mode z.0.mode (join (at_least y.0.mode X) (is_row_mode y.0.mode) y.2 (row-fit d t s y.0 y.1)) z.2))
      go (inr a) (inl b) = let x = least-held w.holds c (Row t s) Ns a in let y = covered-held w.holds d X t b in
          let z = least-held w.holds c (Table t) (table_mode x.0.mode) (backed-by c t s x.0 x.1) in
          apart (Table t) z.0 y.0 z.1 y.1 (x-not-is z.0.mode y.0.mode (table_mode-is x.0.mode z.0.mode z.2) y.2)
      go (inr a) (inr b) = let x = least-held w.holds c (Row t s) Ns a in let y = least-held w.holds d (Row t s) X b in
          apart (Row t s) x.0 y.0 x.1 y.1 (ns-not-x x.0.mode y.0.mode x.2 (join (at_least y.0.mode X) (is_row_mode y.0.mode) y.2 (row-fit d t s y.0 y.1)))

  -- no version of d's unit is pending in a slot that c keeps
  not-of-d : (t : TableId) (s : Rid) (v : Version) → is_locked w.holds c t s ≡ true → Contains (versions w t s) v → v.pending ≡ true → v.unit ≡ unit_of w d → ⊥
  unfolding MakersHold
  not-of-d t s v e h p u =
      let m = sound.makers t s v h p in
      let o : m.conn ≡ d = unit-owner-of w sound.units d m.conn (m.open_unit ∙ ap Some u) in
      let l : has_write_lock head w.holds d t s ≡ true = subst (λ (k : Conn). has_write_lock head w.holds k t s ≡ true) o m.locks in
      excludes t s e (elim (one-of (is_covered_on w.holds d X t) (keeps_mode w.holds d (Row t s) X) l) [
        | inl a ↦ rw a refl
        | inr b ↦ (let y : holds_at_least w.holds d (Row t s) X ≡ true = keeps-least w.holds d (Row t s) X b in or_right (is_covered_on w.holds d X t) _ y)
      ])
    where
      or_right : (a b : Bool) → b ≡ true → (a || b) ≡ true
      or_right true b q = refl
      or_right false b q = q

  -- nothing is taken off it, and nothing settled
  taken-same : (n : ℕ) (vs : List Version) → ((v : Version) → Contains vs v → v.pending ≡ true → v.number ≡ n → ⊥) → taken_off n vs ≡ vs
  taken-same n [] f = refl
  taken-same n (v ∷ vs) f = go (taken-same n vs (λ x h. f x (in-rest v x vs h))) v.pending refl (v.number == n) refl
    where
      go : taken_off n vs ≡ vs → (a : Bool) → v.pending ≡ a → (b : Bool) → (v.number == n) ≡ b → taken_off n (v ∷ vs) ≡ v ∷ vs
      go ih false p b q = rw (p, ih) refl
      go ih true p false q = rw (p, q, ih) refl
      go ih true p true q = absurd (f v (in-first v vs) p (eqb-true v.number n q))

  settled-same : (u : ℕ) (vs : List Version) → ((v : Version) → Contains vs v → v.pending ≡ true → v.unit ≡ u → ⊥) → settled_by u vs ≡ vs
  settled-same u [] f = refl
  settled-same u (v ∷ vs) f = go (settled-same u vs (λ x h. f x (in-rest v x vs h))) v.pending refl (v.unit == u) refl
    where
      go : settled_by u vs ≡ vs → (a : Bool) → v.pending ≡ a → (b : Bool) → (v.unit == u) ≡ b → settled_by u (v ∷ vs) ≡ v ∷ vs
      go ih false p b q = rw (p, ih) refl
      go ih true p false q = rw (p, q, ih) refl
      go ih true p true q = absurd (f v (in-first v vs) p (eqb-true v.unit u q))

  -- a write of d falls elsewhere
  writes-elsewhere : (x : TableId) (y : Rid) (row : Option (List Value)) (t : TableId) (s : Rid) → is_locked w.holds c t s ≡ true
      → may_hold_write w.holds d x y ≡ true
      → versions_in (tables_by w (unit_of w d) (Writes x y row)) t s ≡ versions w t s
  writes-elsewhere x y row t s e f = elim (versions-writes w (unit_of w d) x y row t s) [
    | inl k ↦ k
    | inr k ↦ absurd (excludes t s e (subst (λ (z : Rid). may_hold_write w.holds d t z ≡ true) (sym k.1)
        (subst (λ (z : TableId). may_hold_write w.holds d z y ≡ true) (sym k.0) f)))
  ]

  -- a new slot is no slot that c keeps
  adds-elsewhere : (x : TableId) (row : List Value) (t : TableId) (s : Rid) → is_locked w.holds c t s ≡ true → holds_at_least w.holds d (Table x) Ix ≡ true
      → versions_in (tables_by w (unit_of w d) (Adds x row)) t s ≡ versions w t s
  unfolding HoldsThere
  adds-elsewhere x row t s e f = elim (versions-adds w (unit_of w d) x row t s) [
    | inl k ↦ k
    | inr k ↦ absurd (off k.0 k.1)
  ]
    where
      off : t ≡ x → s.0 ≡ slots w x → ⊥
      off a b = elim (one-of (is_covered_on w.holds c S t) (holds_at_least w.holds c (Row t s) Ns) e) [
        | inl g ↦ covered-not-ix t g (subst (λ (z : TableId). holds_at_least w.holds d (Table z) Ix ≡ true) (sym a) f)
        | inr g ↦ (let h = least-held w.holds c (Row t s) Ns g in
            let there : nat_lt s.0 (slots w t) ≡ true = sound.there c (Row t s) h.0 h.1 in
            let small : s.0 < slots w t = grind (arith, nat_tests, there) in
            let z : slots w t ≡ slots w x = ap (λ (k : TableId). slots w k) a in omega (arith, small, b, z))
      ]

  -- by locks
  pub locked-stays : (logged : VersionsLogged w) (a : Act) (t : TableId) (s : Rid) → ByAgent head w d a → is_locked w.holds c t s ≡ true
      → versions_in (tables_by w (unit_of w d) (change_of a)) t s ≡ versions w t s
  unfolding VersionsLogged
  locked-stays logged (Insert x y row) t s al e = adds-elsewhere x row t s e al.1
  locked-stays logged (Update x y row) t s al e = writes-elsewhere x y (Some row) t s e (both _ _ (both _ _ al.1).1).0
  locked-stays logged (Delete x y) t s al e = writes-elsewhere x y None t s e (both _ _ (both _ _ al.1).1).0
  locked-stays logged (Undo n) t s al e = versions-takes w (unit_of w d) n t s ∙ taken-same n (versions w t s)
      (λ v h p q. not-of-d t s v e h p (sym (logged t s v h p).1 ∙ ap (λ (k : ℕ). (note_of w.records k).unit) q ∙ last-owned w (unit_of w d) n al.1))
  locked-stays logged Commit t s al e = versions-settles w (unit_of w d) t s ∙ settled-same (unit_of w d) (versions w t s) (λ v h p u. not-of-d t s v e h p u)
  locked-stays logged _ t s al e = refl

  -- a slot that c keeps
  pub slot-stays : (logged : VersionsLogged w) (a : Act) (t : TableId) (s : Rid) → ByAgent head w d a → is_slot_kept w c t s ≡ true
      → versions_in (tables_by w (unit_of w d) (change_of a)) t s ≡ versions w t s
  slot-stays logged a t s al e = go (is_covered_on w.holds c S t) refl (keeps_mode w.holds c (Row t s) S) refl
    where
      go : (p : Bool) → is_covered_on w.holds c S t ≡ p → (q : Bool) → keeps_mode w.holds c (Row t s) S ≡ q
          → versions_in (tables_by w (unit_of w d) (change_of a)) t s ≡ versions w t s
      go true f q g = locked-stays logged a t s al (rw f refl)
      go false f true g =
          let x = keeps-held w.holds c (Row t s) S g in
          locked-stays logged a t s al (rw f (rw x.1 (least-s-ns x.0.mode x.2)))
      go false f false g =
          let z : (nat_lt s.0 (slots w t) && is_dead (versions w t s)) ≡ true = rw (f, g) at e in
          let x = both (nat_lt s.0 (slots w t)) (is_dead (versions w t s)) z in
          dead-change w d (unit_of w d) (change_of a) t s (write-sees head w d a al) x.0 x.1
