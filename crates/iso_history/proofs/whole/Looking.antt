-- A look that locks its row, or is settled, shows no row beside another unit's change.
use Rattle.std.proofs.Common.{◌≡◌, ◌⊎◌, inl, inr, ℕ, Bool, true, false, not, ◌||◌, List, [], ◌∷◌, refl, ap, sym, ◌∙◌, Some, None, Option, if◌then◌else◌, is_some}
use Rattle.std.specs.Option.{option_map, option_map_or}
use Rattle.std.proofs.lemmas.Bool.{and_parts, or_cases}
use Rattle.iso_history.proofs.facts.Excludes.{apart-not, excludes, has_lock, kept-writes, passing}
use Rattle.iso_history.proofs.locks.Fits.{granted_by, modes_together, unopposed}
use Rattle.iso_history.proofs.locks.Modes.{covers-lower, reader-apart, rows-apart}
use Rattle.iso_history.proofs.locks.Tests.{or-first, or-first_false, or-other, or-second}
use Rattle.iso_history.proofs.locks.Stands.{asked-back}
use Rattle.iso_history.proofs.pending.ModeTests.{at_least-second}
use Rattle.iso_history.proofs.whole.Writers.{alone-where}
use Rattle.iso_history.specs.Facts.{IsSound, LocksSound, has_write_lock}
use Rattle.iso_history.specs.Holds.{placed_by_want}
use Rattle.iso_history.specs.Looks.{is_settled, locks_row, look, look_asks, may_look, want_asks}
use Rattle.iso_history.specs.Requests.{asking, is_backed, is_had, is_limited, is_row_mode, may_ask, need_of, request, table_mode}
use Rattle.iso_history.specs.Requests.Outcome.{Gives}
use Rattle.iso_history.specs.Units.{unit_of}
use Rattle.iso_history.specs.Versions.{is_changed_beside, is_dead, is_pending, is_pending_beside, versions}
use Rattle.iso_history.specs.World.{Version, World}
use Rattle.iso_history.specs.declared.entry.Got.{Got}
use Rattle.iso_history.specs.declared.entry.Want.{Want}
use Rattle.iso_history.specs.declared.entry.Want.TheVariants.{Alter, AlterKept, Current, Dirty, Repeat, Steady}
use Rattle.iso_modes.specs.Modes.{at_least, compatible, covers, joined, mode_eq, mode_number}
use Rattle.iso_modes.proofs.Modes.{mode_eq-is}
use Rattle.iso_modes.specs.declared.Mode.{Mode}
use Rattle.iso_modes.specs.declared.Mode.TheVariants.{Is, Ns, X}
use Rattle.iso_modes.specs.declared.Term.{Term}
use Rattle.iso_queue.specs.Locks.{held, holds_at_least, is_covered, target}
use Rattle.iso_queue.specs.Queues.{would_wait}
use Rattle.iso_types.specs.Ids.{conn_eq}
use Rattle.iso_types.specs.declared.head.Head.{Head}
use Rattle.iso_types.specs.declared.value.Conn.{Conn}
use Rattle.iso_types.specs.declared.value.Name.TheVariants.{Row, Table}
use Rattle.iso_types.specs.declared.value.Rid.{Rid}
use Rattle.iso_types.specs.declared.value.TableId.{TableId}

ns-row : is_row_mode Ns ≡ true
unfolding is_row_mode
ns-row = refl

ns-reads : at_least Ns Ns ≡ true
unfolding mode_number mode_eq joined at_least
ns-reads = refl

reads-target : (x : Option Mode) (m : Mode) → at_least m Ns ≡ true → at_least (option_map_or (λ h. joined h m) x m) Ns ≡ true
reads-target None m e = e
reads-target (Some a) m e = at_least-second Ns a m e

module _ (head : Head) (w : World) (s : LocksSound head w) (c : Conn) (t : TableId) (r : Rid) (m : Mode) (reads : at_least m Ns ≡ true) where
  -- a request on the row that would be granted, but for the limit, is one that no other's lock for writing stands against
  free-excludes : (is_had head w c (Row t r) m || not (would_wait w.holds w.waits (asking w c (Row t r) m))) ≡ true
      → (is_covered head w.holds c (Row t r) m || is_backed head w c (Row t r) m) ≡ true
      → (d : Conn) → conn_eq c d ≡ false → has_write_lock head w.holds d t r ≡ true → ⊥
  free-excludes free back d away lock = go (or_cases _ _ free)
    where
      writes : has_lock head w.holds d t r X ≡ true
      writes = kept-writes head w s t r d lock

      covered : is_covered head w.holds c (Row t r) m ≡ true → ⊥
      covered e =
          let a = passing (λ z. covers z m) (held w.holds c (Table t)) e in
          excludes head w s t r c d away
          (ap (λ b. b || holds_at_least w.holds c (Row t r) Ns) (ap (λ x. option_map_or (λ z. covers z Ns) x false) a.1
          ∙ covers-lower a.0 m Ns a.2 reads ns-row)) writes

      has : option_map_or (mode_eq (target w.holds c (Row t r) m)) (held w.holds c (Row t r)) false ≡ true → ⊥
      has e =
          let a = passing (mode_eq (target w.holds c (Row t r) m)) (held w.holds c (Row t r)) e in
          let same : target w.holds c (Row t r) m ≡ a.0 = mode_eq-is _ _ a.2 in
          excludes head w s t r c d away
          (or-second (is_covered head w.holds c (Row t r) Ns) _ (ap (λ x. option_map_or (λ z. at_least z Ns) x false) a.1
          ∙ ap (λ z. at_least z Ns) (sym same) ∙ reads-target (held w.holds c (Row t r)) m reads)) writes

      unheld : would_wait w.holds w.waits (asking w c (Row t r) m) ≡ false → is_covered head w.holds c (Row t r) m ≡ false → ⊥
      unheld e bare = at (or_cases _ _ writes)
        where
          at : (is_covered head w.holds d (Row t r) X ≡ true) ⊎ (holds_at_least w.holds d (Row t r) X ≡ true) → ⊥
          at (inl h) =
              let a = passing (λ z. at_least z (table_mode m)) (held w.holds c (Table t)) (or-other _ _ bare back) in
              let b = passing (λ z. covers z X) (held w.holds d (Table t)) h in
              apart-not (compatible a.0 b.0) (reader-apart a.0 b.0 m a.2 b.2)
              (modes_together w.holds s.together c d (Table t) a.0 b.0 away a.1 b.1)
          at (inr h) =
              let b = passing (λ z. at_least z X) (held w.holds d (Row t r)) h in
              apart-not (compatible (target w.holds c (Row t r) m) b.0)
              (rows-apart (target w.holds c (Row t r) m) b.0 (reads-target (held w.holds c (Row t r)) m reads) b.2)
              (unopposed w.holds (asking w c (Row t r) m) (or-first_false _ _ e) d b.0 away b.1)

      bare-or : (b : Bool) → is_covered head w.holds c (Row t r) m ≡ b → would_wait w.holds w.waits (asking w c (Row t r) m) ≡ false → ⊥
      bare-or true k e = covered k
      bare-or false k e = unheld e k

      no : (b : Bool) → not b ≡ true → b ≡ false
      no true e = cc
      no false e = refl

      go : (is_had head w c (Row t r) m ≡ true) ⊎ (not (would_wait w.holds w.waits (asking w c (Row t r) m)) ≡ true) → ⊥
      go (inl e) = had (or_cases _ _ e)
        where
          had : (is_covered head w.holds c (Row t r) m ≡ true)
              ⊎ (option_map_or (mode_eq (target w.holds c (Row t r) m)) (held w.holds c (Row t r)) false ≡ true) → ⊥
          had (inl k) = covered k
          had (inr k) = has k
      go (inr e) = bare-or (is_covered head w.holds c (Row t r) m) refl (no _ e)

  -- a granted request is one
  granted-free : request head w c (Row t r) m ≡ Gives Got.Granted
      → (is_had head w c (Row t r) m || not (would_wait w.holds w.waits (asking w c (Row t r) m))) ≡ true
  granted-free e = go (granted_by (is_had head w c (Row t r) m) (is_limited head w c (need_of w c (Row t r)))
      (would_wait w.holds w.waits (asking w c (Row t r) m)) (w.setting c).may_wait (target w.holds c (Row t r) m) e)
    where
      go : (is_had head w c (Row t r) m ≡ true) ⊎ (would_wait w.holds w.waits (asking w c (Row t r) m) ≡ false)
          → (is_had head w c (Row t r) m || not (would_wait w.holds w.waits (asking w c (Row t r) m))) ≡ true
      go (inl k) = or-first _ _ k
      go (inr k) = or-second _ _ (ap not k)

-- in a dead slot nothing is pending
dead-alone : (u : ℕ) (vs : List Version) → is_dead vs ≡ true → is_pending_beside u vs ≡ false
dead-alone u vs e = none u vs (no (is_pending vs) ((and_parts _ _ e).0))
  where
    no : (b : Bool) → not b ≡ true → b ≡ false
    no true e = cc
    no false e = refl

    neither : (a b : Bool) → (a || b) ≡ false → (a ≡ false) × (b ≡ false)
    neither true b e = cc
    neither false b e = (refl, e)

    none : (u : ℕ) (vs : List Version) → is_pending vs ≡ false → is_pending_beside u vs ≡ false
    none u [] e = refl
    none u (v ∷ vs) e = let p = neither v.pending (is_pending vs) e in rw (p.0) (none u vs p.1)

module _ (head : Head) (w : World) (s : IsSound head w) (c : Conn) (t : TableId) (r : Rid) where
  free-alone : (m : Mode) → at_least m Ns ≡ true
      → (is_had head w c (Row t r) m || not (would_wait w.holds w.waits (asking w c (Row t r) m))) ≡ true
      → (is_covered head w.holds c (Row t r) m || is_backed head w c (Row t r) m) ≡ true → is_changed_beside w c t r ≡ false
  free-alone m reads free back = alone-where head w s t r c (free-excludes head w s.locks c t r m reads free back)

  placed-reads : (want : Want) (p : Mode × Term) → placed_by_want want ≡ Some p → at_least p.0 Ns ≡ true
  unfolding mode_number mode_eq joined at_least
  placed-reads Steady p e = ap (λ (o : Option (Mode × Term)). option_map_or (λ q. at_least q.0 Ns) o true) (sym e)
  placed-reads Repeat p e = ap (λ (o : Option (Mode × Term)). option_map_or (λ q. at_least q.0 Ns) o true) (sym e)
  placed-reads Alter p e = ap (λ (o : Option (Mode × Term)). option_map_or (λ q. at_least q.0 Ns) o true) (sym e)
  placed-reads AlterKept p e = ap (λ (o : Option (Mode × Term)). option_map_or (λ q. at_least q.0 Ns) o true) (sym e)
  placed-reads Current p e = cc
  placed-reads Dirty p e = cc
  placed-reads Want.Settled p e = cc

  -- a look that locks its row
  pub look-alone : (want : Want) → locks_row want ≡ true → may_look head w c t r want ≡ true → look head w c t r want ≡ Gives Got.Granted
      → is_changed_beside w c t r ≡ false
  look-alone want locks may granted = by_dead (is_dead (versions w t r)) refl
    where
      asks : (p : Mode × Term) → placed_by_want want ≡ Some p → is_dead (versions w t r) ≡ false → look_asks head w c t r want ≡ Some p.0
      asks p e live = rw live (at want e)
        where
          at : (want : Want) → placed_by_want want ≡ Some p → want_asks head w c t r want ≡ Some p.0
          at Steady e = ap (option_map (λ (q : Mode × Term). q.0)) e
          at Repeat e = ap (option_map (λ (q : Mode × Term). q.0)) e
          at Alter e = ap (option_map (λ (q : Mode × Term). q.0)) e
          at AlterKept e = ap (option_map (λ (q : Mode × Term). q.0)) e
          at Current e = cc
          at Dirty e = cc
          at Want.Settled e = cc

      by_place : (o : Option (Mode × Term)) → placed_by_want want ≡ o → is_some o ≡ true → is_dead (versions w t r) ≡ false → is_changed_beside w c t r ≡ false
      by_place None e k live = cc
      by_place (Some p) e k live =
          let is = asks p e live in
          let ask : may_ask head w c (Row t r) p.0 ≡ true = ap (λ o. option_map_or (may_ask head w c (Row t r)) o true) (sym is) ∙ (and_parts _ _ may).1 in
          let got : request head w c (Row t r) p.0 ≡ Gives Got.Granted =
          ap (λ o. option_map_or (request head w c (Row t r)) o (Gives Got.Granted)) (sym is) ∙ granted in
          free-alone p.0 (placed-reads want p e) (granted-free head w s.locks c t r p.0 (placed-reads want p e) got) (asked-back head w c (Row t r) p.0 ask)

      by_dead : (b : Bool) → is_dead (versions w t r) ≡ b → is_changed_beside w c t r ≡ false
      by_dead true e = dead-alone (unit_of w c) (versions w t r) e
      by_dead false e = by_place (placed_by_want want) refl locks e

  -- a look at a settled row, under a lock on its table
  pub settled-alone : holds_at_least w.holds c (Table t) Is ≡ true → look head w c t r Want.Settled ≡ Gives Got.Granted → is_changed_beside w c t r ≡ false
  unfolding table_mode
  settled-alone table granted = by_dead (is_dead (versions w t r)) refl
    where
      back : (is_covered head w.holds c (Row t r) Ns || is_backed head w c (Row t r) Ns) ≡ true
      back = or-second (is_covered head w.holds c (Row t r) Ns) _ table

      by : (b : Bool) → is_settled head w c t r ≡ b
          → option_map_or (request head w c (Row t r)) (if b then None else Some Ns) (Gives Got.Granted) ≡ Gives Got.Granted → is_settled head w c t r ≡ true
      by true k e = k
      by false k e = granted-free head w s.locks c t r Ns ns-reads e

      by_dead : (b : Bool) → is_dead (versions w t r) ≡ b → is_changed_beside w c t r ≡ false
      by_dead true e = dead-alone (unit_of w c) (versions w t r) e
      by_dead false e =
          let asks : option_map_or (request head w c (Row t r)) (if is_settled head w c t r then None else Some Ns) (Gives Got.Granted) ≡ Gives Got.Granted = rw e at granted in
          free-alone Ns ns-reads (by (is_settled head w c t r) refl asks) back
