-- Open units are apart and have been begun; an open statement has its unit.
use Rattle.std.proofs.Common.{◌≡◌, ◌≤◌, ◌+◌, ℕ, true, refl, sym, ◌∙◌, arith, Some, None, Option, is_some, if◌then◌else◌, unwrap_or, subst}
use Rattle.iso_history.proofs.pending.Conns.{at_conn-cases, conn-is}
use Rattle.iso_history.specs.After.{after}
use Rattle.iso_history.specs.Facts.{LinesOpen, UnitsApart}
use Rattle.iso_history.specs.Lines.{Stage, line_by, stage_of}
use Rattle.iso_history.specs.Lines.Stage.{Goes, Opens, Shuts}
use Rattle.iso_history.specs.Units.{Turn, begun_by, turn_of, unit_by}
use Rattle.iso_history.specs.Units.Turn.{Begins, Ends, Stays}
use Rattle.iso_history.specs.World.{World, at_conn}
use Rattle.iso_history.specs.declared.entry.Act.{Act}
use Rattle.iso_history.specs.declared.entry.Act.TheVariants.{Commit, Dispatch, Reply, Rollback}
use Rattle.iso_history.specs.declared.entry.Entry.{Entry}
use Rattle.iso_history.specs.declared.entry.Who.{Who}
use Rattle.iso_history.specs.declared.entry.Who.TheVariants.{Agent, Dispatcher}
use Rattle.iso_types.specs.Ids.{conn_eq}
use Rattle.iso_types.specs.declared.head.Head.{Head}
use Rattle.iso_types.specs.declared.value.Conn.{Conn}

-- the facts of units, over what they speak of
record Apart (many : ℕ) (unit : Conn → Option ℕ) : Type 0 where
  begun : (c : Conn) (u : ℕ) → unit c ≡ Some u → (1 ≤ u) × (u ≤ many)
  apart : (c d : Conn) (u : ℕ) → unit c ≡ Some u → unit d ≡ Some u → conn_eq c d ≡ true

both-are : (c d e : Conn) → conn_eq d c ≡ true → conn_eq e c ≡ true → conn_eq d e ≡ true
both-are c d e p q = subst (λ (z : Conn). conn_eq d z ≡ true) (sym (conn-is e c q)) p

some-is : (u v : ℕ) → Some u ≡ Some v → u ≡ v
some-is u v e = cc

-- a new unit
begins-apart : (begun : ℕ) (unit : Conn → Option ℕ) (c : Conn) → Apart begun unit → Apart (begun + 1) (at_conn unit c (Some (begun + 1)))
begins-apart begun unit c s = record {
  begun = λ d u. at_conn-cases unit c (Some (begun + 1)) d (λ o. o ≡ Some u → (1 ≤ u) × (u ≤ begun + 1))
      (λ e h. let k : begun + 1 ≡ u = some-is (begun + 1) u h in (omega arith, omega arith))
      (λ e h. let k = s.begun d u h in (k.0, omega (arith, k.1)));
  apart = λ d e u. at_conn-cases unit c (Some (begun + 1)) d (λ o. o ≡ Some u → at_conn unit c (Some (begun + 1)) e ≡ Some u → conn_eq d e ≡ true)
      (λ dc h. at_conn-cases unit c (Some (begun + 1)) e (λ o. o ≡ Some u → conn_eq d e ≡ true) (λ ec g. both-are c d e dc ec)
      (λ ne g. let k : begun + 1 ≡ u = some-is (begun + 1) u h in let l : u ≤ begun = (s.begun e u g).1 in absurd (omega arith)))
      (λ nd h. at_conn-cases unit c (Some (begun + 1)) e (λ o. o ≡ Some u → conn_eq d e ≡ true)
      (λ ec g. let k : begun + 1 ≡ u = some-is (begun + 1) u g in let l : u ≤ begun = (s.begun d u h).1 in absurd (omega arith))
      (λ ne g. s.apart d e u h g));
}

-- a unit ends
ends-apart : (begun : ℕ) (unit : Conn → Option ℕ) (c : Conn) → Apart begun unit → Apart begun (at_conn unit c None)
ends-apart begun unit c s = record {
  begun = λ d u. at_conn-cases unit c None d (λ o. o ≡ Some u → (1 ≤ u) × (u ≤ begun)) (λ e h. absurd (none u h)) (λ e h. s.begun d u h);
  apart = λ d e u. at_conn-cases unit c None d (λ o. o ≡ Some u → at_conn unit c None e ≡ Some u → conn_eq d e ≡ true) (λ dc h. absurd (none u h))
      (λ nd h. at_conn-cases unit c None e (λ o. o ≡ Some u → conn_eq d e ≡ true) (λ ec g. absurd (none u g)) (λ ne g. s.apart d e u h g));
}
  where
    none : (u : ℕ) → None ≡ Some u → ⊥
    none u e = cc

-- a connection keeps its unit
same-apart : (begun : ℕ) (unit : Conn → Option ℕ) (c : Conn) (v : ℕ) → unit c ≡ Some v → Apart begun unit → Apart begun (at_conn unit c (Some v))
same-apart begun unit c v is s = record {
  begun = λ d u. at_conn-cases unit c (Some v) d (λ o. o ≡ Some u → (1 ≤ u) × (u ≤ begun)) (λ e h. s.begun c u (is ∙ h)) (λ e h. s.begun d u h);
  apart = λ d e u. at_conn-cases unit c (Some v) d (λ o. o ≡ Some u → at_conn unit c (Some v) e ≡ Some u → conn_eq d e ≡ true)
      (λ dc h. at_conn-cases unit c (Some v) e (λ o. o ≡ Some u → conn_eq d e ≡ true) (λ ec g. both-are c d e dc ec)
      (λ ne g. subst (λ (z : Conn). conn_eq z e ≡ true) (sym (conn-is d c dc)) (s.apart c e u (is ∙ h) g)))
      (λ nd h. at_conn-cases unit c (Some v) e (λ o. o ≡ Some u → conn_eq d e ≡ true)
      (λ ec g. subst (λ (z : Conn). conn_eq d z ≡ true) (sym (conn-is e c ec)) (s.apart d c u h (is ∙ g)))
      (λ ne g. s.apart d e u h g));
}

turn-apart : (w : World) (t : Turn) → Apart w.begun w.unit → Apart (begun_by w t) (unit_by w t)
turn-apart w Stays s = s
turn-apart w (Begins c) s = go (w.unit c) refl
  where
    go : (o : Option ℕ) → w.unit c ≡ o → Apart (if is_some o then w.begun else w.begun + 1) (at_conn w.unit c (Some (unwrap_or o (w.begun + 1))))
    go None e = begins-apart w.begun w.unit c s
    go (Some u) e = same-apart w.begun w.unit c u e s
turn-apart w (Ends c) s = ends-apart w.begun w.unit c s

pub units-after : (head : Head) (w : World) (e : Entry) → UnitsApart w → UnitsApart (after head w e)
units-after head w e s =
    let x = turn-apart w (turn_of e.who e.act) (record { begun = s.begun; apart = s.apart }) in
    record { begun = x.begun; apart = x.apart }

pub begun-grows : (w : World) (t : Turn) → w.begun ≤ begun_by w t
begun-grows w Stays = omega arith
begun-grows w (Begins c) = go (w.unit c)
  where
    go : (o : Option ℕ) → w.begun ≤ (if is_some o then w.begun else w.begun + 1)
    go None = omega arith
    go (Some u) = omega arith
begun-grows w (Ends c) = omega arith

-- an open statement has its unit
record Opened (line unit : Conn → Option ℕ) : Type 0 where
  have : (c : Conn) (k : ℕ) → line c ≡ Some k → is_some (unit c) ≡ true

-- what a stage asks of a turn: what opens a statement begins a unit, and what ends one shuts it
data StageFits : Stage → Turn → Type 0 where
  goes : StageFits Goes Stays
  shuts : (c : Conn) → StageFits (Shuts c) Stays
  opens : (c : Conn) (k : ℕ) → StageFits (Opens c k) (Begins c)
  ends : (c : Conn) → StageFits (Shuts c) (Ends c)

stage-agent : (c : Conn) (a : Act) → StageFits (stage_of (Agent c) a) (turn_of (Agent c) a)
stage-agent c Commit = ends c
stage-agent c (Rollback code reason) = ends c
stage-agent c Act.Ended = ends c
stage-agent c (Reply code changed rows) = shuts c
stage-agent c _ = goes

stage-dispatcher : (a : Act) → StageFits (stage_of Dispatcher a) (turn_of Dispatcher a)
stage-dispatcher (Dispatch line c) = opens c line
stage-dispatcher _ = goes

none-some : {A : Type 0} {x : A} → None ≡ Some x → ⊥
none-some e = cc

stage-opened : (w : World) (g : Stage) (t : Turn) → StageFits g t → Opened w.line w.unit → Opened (line_by w.line g) (unit_by w t)
stage-opened w _ _ goes s = s
stage-opened w _ _ (shuts c) s = record {
  have = λ d k. at_conn-cases w.line c None d (λ o. o ≡ Some k → is_some (w.unit d) ≡ true)
      (λ e h. absurd (none-some h)) (λ e h. s.have d k h);
}
stage-opened w _ _ (opens c j) s = record {
  have = λ d k. at_conn-cases w.line c (Some j) d (λ o. o ≡ Some k → is_some (unit_by w (Begins c) d) ≡ true)
      (λ e h. rw e refl)
      (λ e h. rw e (s.have d k h));
}
stage-opened w _ _ (ends c) s = record {
  have = λ d k. at_conn-cases w.line c None d (λ o. o ≡ Some k → is_some (unit_by w (Ends c) d) ≡ true) (λ e h. absurd (none-some h))
      (λ e h. rw e (s.have d k h));
}

pub opened-after : (head : Head) (w : World) (e : Entry) → LinesOpen w → LinesOpen (after head w e)
unfolding LinesOpen
opened-after head w e s = (go e.who).have
  where
    go : (who : Who) → Opened (line_by w.line (stage_of who e.act)) (unit_by w (turn_of who e.act))
    go Dispatcher = stage-opened w _ _ (stage-dispatcher e.act) (record { have = s })
    go (Agent c) = stage-opened w _ _ (stage-agent c e.act) (record { have = s })
