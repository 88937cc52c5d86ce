-- What a slot has pending is one unit's, and who may change a row sees no other unit's pending version of it.
use Rattle.std.proofs.Common.{◌≡◌, ℕ, Bool, true, false, not, ◌&&◌, ◌||◌, List, [], ◌∷◌, refl, ap, sym, ◌∙◌, arith, Some}
use Rattle.std.specs.Prelude.{◌==◌, unwrap_or}
use Rattle.std.proofs.lemmas.Bool.Decides.{nat_tests}
use Rattle.iso_history.proofs.facts.Excludes.{one-writer}
use Rattle.iso_history.proofs.limits.Begun.{none_left, undo-unit, unit-of}
use Rattle.iso_history.proofs.log.Logged.{Premises}
use Rattle.iso_history.proofs.pending.Conns.{conn-is}
use Rattle.iso_history.proofs.pending.Containing.{Each}
use Rattle.iso_history.proofs.pending.Makers.{IfPending, MakerOf, makers-each}
use Rattle.iso_history.proofs.pending.MakersAfter.{change-lock}
use Rattle.iso_history.proofs.pending.Undo.{head-of}
use Rattle.iso_history.specs.Facts.{IsSound, TablesThere, has_write_lock}
use Rattle.iso_history.specs.Piles.{AllOfUnit, AllOneUnit, OneUnit}
use Rattle.iso_history.specs.Records.{last_left, note_of}
use Rattle.iso_history.specs.Units.{unit_of}
use Rattle.iso_history.specs.Versions.{head_record, is_changed_beside, is_pending_beside, versions}
use Rattle.iso_history.specs.World.{Version, World}
use Rattle.iso_types.specs.Ids.{conn_eq}
use Rattle.iso_types.specs.declared.head.Head.{Head}
use Rattle.iso_types.specs.declared.value.Conn.{Conn}
use Rattle.iso_types.specs.declared.value.Rid.{Rid}
use Rattle.iso_types.specs.declared.value.TableId.{TableId}

some-is : (u v : ℕ) → Some u ≡ Some v → u ≡ v
some-is u v e = cc

off : (a b rest : Bool) → (a ≡ true → b ≡ true) → rest ≡ false → ((a && not b) || rest) ≡ false
off true true rest h e = e
off true false rest h e = let z = h refl in cc
off false b rest h e = e

module _ (head : Head) (w : World) (s : IsSound head w) (t : TableId) (r : Rid) where
  -- a writer's unit is that of the maker
  writer-unit : (c : Conn) (u : ℕ) (v : Version) → w.unit c ≡ Some u → has_write_lock head w.holds c t r ≡ true
      → MakerOf head w.unit w.holds t r v → v.unit ≡ u
  writer-unit c u v is lock m =
      let same : c ≡ m.conn = conn-is c m.conn (one-writer head w s.locks t r c m.conn lock m.locks) in
      some-is v.unit u (sym m.open_unit ∙ ap w.unit (sym same) ∙ is)

  all-of : (u : ℕ) (c : Conn) → w.unit c ≡ Some u → has_write_lock head w.holds c t r ≡ true
      → (vs : List Version) → Each (IfPending (MakerOf head w.unit w.holds t r)) vs → AllOfUnit u vs
  all-of u c is lock [] h = tt
  all-of u c is lock (v ∷ vs) h = ((λ p. writer-unit c u v is lock (h.0 p)), all-of u c is lock vs h.1)

  one-of : (vs : List Version) → Each (IfPending (MakerOf head w.unit w.holds t r)) vs → OneUnit vs
  one-of [] h = tt
  one-of (v ∷ vs) h = ((λ p. let m = h.0 p in all-of v.unit m.conn m.open_unit m.locks vs h.1), one-of vs h.1)

  pub one-unit : OneUnit (versions w t r)
  one-unit = one-of (versions w t r) (makers-each head w s.makers t r)

  -- where no other connection may write the row, the connection sees no other unit's pending version of it
  alone-in : (c : Conn) → ((d : Conn) → has_write_lock head w.holds d t r ≡ true → c ≡ d) → (vs : List Version)
      → Each (IfPending (MakerOf head w.unit w.holds t r)) vs → is_pending_beside (unit_of w c) vs ≡ false
  alone-in c only [] h = refl
  alone-in c only (v ∷ vs) h = off v.pending (v.unit == unit_of w c) (is_pending_beside (unit_of w c) vs) (λ p. own (h.0 p)) (alone-in c only vs h.1)
    where
      same : (a b : ℕ) → a ≡ b → (a == b) ≡ true
      same a b e = grind (arith, nat_tests)

      own : MakerOf head w.unit w.holds t r v → (v.unit == unit_of w c) ≡ true
      own m = same v.unit (unit_of w c) (sym (ap (λ o. unwrap_or o 0) (ap w.unit (only m.conn m.locks) ∙ m.open_unit)))

  pub alone-where : (c : Conn) → ((d : Conn) → conn_eq c d ≡ false → has_write_lock head w.holds d t r ≡ true → ⊥) → is_changed_beside w c t r ≡ false
  alone-where c excludes = alone-in c (λ d lock. go d lock (conn_eq c d) refl) (versions w t r) (makers-each head w s.makers t r)
    where
      go : (d : Conn) → has_write_lock head w.holds d t r ≡ true → (b : Bool) → conn_eq c d ≡ b → c ≡ d
      go d lock true k = conn-is c d k
      go d lock false k = absurd (excludes d k lock)

  -- so it is of who may write the row
  pub writer-alone : (c : Conn) → has_write_lock head w.holds c t r ≡ true → is_changed_beside w c t r ≡ false
  writer-alone c lock = alone-in c (λ d other. conn-is c d (one-writer head w s.locks t r c d lock other)) (versions w t r) (makers-each head w s.makers t r)

module _ (head : Head) (w : World) (s : IsSound head w) where
  pub all-one_unit : AllOneUnit w
  unfolding AllOneUnit
  all-one_unit t r = one-unit head w s t r

  -- the last record that a unit has left is its slot's last version, also of a connection without a unit
  pub top-of-unit : (c : Conn) (n : ℕ) → last_left w (unit_of w c) ≡ Some n
      → head_record (versions w (note_of w.records n).table (note_of w.records n).rid) ≡ Some n
  top-of-unit c n e =
      let none = none_left w.begun w.records s.begun_records in
      head-of head w s c (unit_of w c) n (unit-of w c (undo-unit w c n none e)) e

  -- what the facts of records take of the world
  pub premises : Premises head w
  unfolding TablesThere
  premises = record {
    piled = s.piled;
    one = all-one_unit;
    wide = s.wide;
    beside = λ c t r m. writer-alone head w s t r c (change-lock head w s c t r m);
    top = top-of-unit;
  }
