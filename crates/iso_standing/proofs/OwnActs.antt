-- The same of each act, and of each front of what is left.
use Rattle.std.proofs.Common.{◌≡◌, inl, inr, ℕ, true, false, List, [], ◌∷◌, refl, sym, ◌∙◌, ap, subst, Some, None, pos}
use Rattle.iso_conduct.specs.Answers.{AreAnswers}
use Rattle.iso_conduct.specs.Conduct.{ends, heard}
use Rattle.iso_conduct.specs.Outcomes.{act_of}
use Rattle.iso_conduct.specs.Parts.{Part, rolling_list}
use Rattle.iso_conduct.specs.Parts.Part.{Claims, Collapses, Frees, Leaves, Undos}
use Rattle.iso_conduct.specs.Points.{Point, due, due_by, row_by, row_due, rows_by, rows_due, told_all}
use Rattle.iso_conduct.specs.declared.moves.Told.{Told}
use Rattle.iso_history.specs.After.{after}
use Rattle.iso_history.specs.Lasts.{due_of_claim}
use Rattle.iso_history.specs.Makers.{by_agent}
use Rattle.iso_history.specs.Marks.{mark_of}
use Rattle.iso_history.specs.Outcomes.{due_mode}
use Rattle.iso_history.specs.World.{Last, World}
use Rattle.iso_history.specs.World.Last.{Awaits, Claimed, Looked, Other}
use Rattle.iso_history.specs.declared.entry.Act.{Act}
use Rattle.iso_history.specs.declared.entry.Act.TheVariants.{Back, Claim, Collapse, Delete, Free, Insert, Lock, Look, Mark, Next, Refused, Rollback, ScanEnd, Set, Undo, Update}
use Rattle.iso_history.specs.declared.entry.Got.{Got}
use Rattle.iso_history.specs.declared.entry.Stand.{Stand}
use Rattle.iso_history.specs.declared.entry.Why.TheVariants as why
use Rattle.iso_history.specs.Writes.{minus}
use Rattle.iso_standing.proofs.Between.{awaited_of, behind-bare, collapse_of, steps-bare}
use Rattle.iso_standing.proofs.Fronted.{AreSteps, BehindClaim, Fronted, behind-fronted, steps-fronted}
use Rattle.iso_standing.proofs.Own.{FateIs, GoesWith, awaits_table, bare-goes, claim-due, looked-goes, silent-goes, sought-is, timed-goes, told-goes, unfreed}
use Rattle.iso_standing.proofs.Ready.{Readied, Rolled, with_left}
use Rattle.iso_types.specs.declared.head.Head.{Head}
use Rattle.iso_types.specs.declared.value.Conn.{Conn}
use Rattle.iso_types.specs.declared.value.Name.TheVariants.{End, Key, Row, Table}

-- nothing is awaited, and so a Claim makes no Collapse due
unawaited-due : (l : Last) → awaits_table l ≡ None → due_of_claim l ≡ None
unawaited-due (Looked t r) e = refl
unawaited-due (Awaits t m) e = absurd (cc)
unawaited-due Claimed e = refl
unawaited-due Other e = refl

module _ (head : Head) (w : World) (c : Conn) (spared : w.doom c ≡ None) where
  -- what is left once the act is heard
  abbrev left_with : Point → Act → List Part
  left_with p a = (told_all p (heard w (after head w (by_agent c a)) c a)).left

  -- an act of a step of the statement's own
  step-goes : (p : Point) → AreSteps p.left → awaits_table (w.last c) ≡ None → (a : Act) → ends a ≡ false
      → act_of head w c (row_due p) (rows_due p) (due p) ≡ a → AreAnswers p (heard w (after head w (by_agent c a)) c a)
      → GoesWith head w c a (left_with p a)
  step-goes p h n (Lock name m t why.Asked Got.Granted) e is ans = told-goes head w c spared p h _ Told.Done refl refl refl refl refl
  step-goes p h n (Lock name m t why.Asked (Got.Queued q)) e is ans = told-goes head w c spared p h _ Told.Queued refl refl refl refl refl
  step-goes p h n (Lock name m t why.Asked Got.TimedOut) e is ans = timed-goes head w c spared _ refl refl refl
  step-goes p h n (Lock (Table u) m t why.Escalation Got.Granted) e is ans =
      record {
        collapse = refl;
        awaited = refl;
        frees = unfreed (after head w (by_agent c (Lock (Table u) m t why.Escalation Got.Granted))) c (Collapses u ∷ p.left) refl;
        fate = subst (λ o. FateIs o (Collapses u ∷ p.left)) (sym spared) (inl h);
      }
  step-goes p h n (Lock (Table u) m t why.Escalation (Got.Queued q)) e is ans =
      record {
        collapse = refl;
        awaited = refl;
        frees = unfreed (after head w (by_agent c (Lock (Table u) m t why.Escalation (Got.Queued q)))) c (Claims ∷ Collapses u ∷ p.left) refl;
        fate = subst (λ o. FateIs o (Claims ∷ Collapses u ∷ p.left)) (sym spared) (inl h);
      }
  step-goes p h n (Lock name m t why.Escalation Got.TimedOut) e is ans = timed-goes head w c spared _ refl refl refl
  step-goes p h n (Lock (Row u r) m t why.Escalation Got.Granted) e is ans = silent-goes head w c spared p h _ refl refl refl
  step-goes p h n (Lock (Row u r) m t why.Escalation (Got.Queued q)) e is ans = silent-goes head w c spared p h _ refl refl refl
  step-goes p h n (Lock (Key i k) m t why.Escalation Got.Granted) e is ans = silent-goes head w c spared p h _ refl refl refl
  step-goes p h n (Lock (Key i k) m t why.Escalation (Got.Queued q)) e is ans = silent-goes head w c spared p h _ refl refl refl
  step-goes p h n (Lock (End i) m t why.Escalation Got.Granted) e is ans = silent-goes head w c spared p h _ refl refl refl
  step-goes p h n (Lock (End i) m t why.Escalation (Got.Queued q)) e is ans = silent-goes head w c spared p h _ refl refl refl
  step-goes p h n (Lock name m t why.Blocked Got.Granted) e is ans = silent-goes head w c spared p h _ refl refl refl
  step-goes p h n (Lock name m t why.Blocked (Got.Queued q)) e is ans = told-goes head w c spared p h _ Told.Blocked refl refl refl refl refl
  step-goes p h n (Lock name m t why.Blocked Got.TimedOut) e is ans = timed-goes head w c spared _ refl refl refl
  step-goes p h n Claim e is ans = told-goes head w c spared p h Claim Told.Granted (unawaited-due (w.last c) n) refl refl refl refl
  step-goes p h n (Look t r want Got.Granted) e is ans =
      looked-goes head w c spared p h t r want (sought-is head w c p.kept p.left _ _ t r want Got.Granted ans.0 is)
  step-goes p h n (Look t r want (Got.Queued q)) e is ans = told-goes head w c spared p h _ Told.Queued refl refl refl refl refl
  step-goes p h n (Look t r want Got.TimedOut) e is ans = timed-goes head w c spared _ refl refl refl
  step-goes p h n (ScanEnd t k) e is ans = told-goes head w c spared p h _ Told.EndOfTable refl refl refl refl refl
  step-goes p h n (Next i range at guarded (Stand.At k r)) e is ans = told-goes head w c spared p h _ (Told.At k r) refl refl refl refl refl
  step-goes p h n (Next i range at guarded Stand.Past) e is ans = told-goes head w c spared p h _ Told.Past refl refl refl refl refl
  step-goes p h n (Next i range at guarded (Stand.Queued name)) e is ans = told-goes head w c spared p h _ Told.Queued refl refl refl refl refl
  step-goes p h n (Next i range at guarded (Stand.TimedOut name)) e is ans = timed-goes head w c spared _ refl refl refl
  step-goes p h n (Free t r) e is ans = told-goes head w c spared p h _ Told.Done refl refl refl refl refl
  step-goes p h n (Collapse t m) e is ans = told-goes head w c spared p h _ Told.Done refl refl refl refl refl
  step-goes p h n (Insert t r row) e is ans = told-goes head w c spared p h _ Told.Done refl refl refl refl refl
  step-goes p h n (Update t r row) e is ans = told-goes head w c spared p h _ Told.Done refl refl refl refl refl
  step-goes p h n (Delete t r) e is ans = told-goes head w c spared p h _ Told.Done refl refl refl refl refl
  step-goes p h n (Refused code) e is ans = told-goes head w c spared p h _ (Told.Refused code) refl refl refl refl refl
  step-goes p h n (Undo k) e is ans = told-goes head w c spared p h _ (Told.Undone true) refl refl refl refl refl
  step-goes p h n (Mark name) e is ans = told-goes head w c spared p h _ Told.Done refl refl refl refl refl
  step-goes p h n (Back name) e is ans = told-goes head w c spared p h _ (Told.Floor (mark_of (w.marks c) name)) refl refl refl refl refl
  step-goes p h n (Set level may_wait) e is ans = told-goes head w c spared p h _ Told.Done refl refl refl refl refl
  step-goes p h n (Rollback code reason) e is ans = absurd (cc)
  step-goes p h n a e is ans = silent-goes head w c spared p h a refl refl refl

  -- what stands in front of the statement's own parts
  claim-goes : (ps : List Part) → BehindClaim ps → awaits_table (w.last c) ≡ collapse_of ps → GoesWith head w c Claim ps
  claim-goes ps h n = record {
    collapse = claim-due (w.last c) ∙ n;
    awaited = sym (behind-bare ps h).0;
    frees = unfreed (after head w (by_agent c Claim)) c ps (behind-bare ps h).1;
    fate = subst (λ o. FateIs o ps) (sym spared) (inl (behind-fronted ps h));
  }

  abbrev GoesAt : Point → Act → Type 0
  GoesAt p a = GoesWith head w c a (left_with p a)

  front-goes : (p : Point) (ps : List Part) → Fronted ps → awaits_table (w.last c) ≡ awaited_of ps → (a : Act) → ends a ≡ false
      → act_of head w c (row_by ps) (rows_by p.kept ps) (due_by p.kept ps) ≡ a
      → AreAnswers (with_left p ps) (heard w (after head w (by_agent c a)) c a) → GoesAt (with_left p ps) a
  front-goes p (Claims ∷ ps) h n a e is ans = subst (GoesAt (with_left p (Claims ∷ ps))) is (claim-goes ps h n)
  front-goes p (Collapses t ∷ ps) h n a e is ans = subst (GoesAt (with_left p (Collapses t ∷ ps))) is
      (bare-goes head w c spared (Collapse t (due_mode w c)) ps refl refl refl (steps-bare ps h) (inl (steps-fronted ps h)))
  front-goes p (Frees t r ∷ ps) h n a e is ans = subst (GoesAt (with_left p (Frees t r ∷ ps))) is
      (bare-goes head w c spared (Free t r) ps refl refl refl (steps-bare ps h) (inl (steps-fronted ps h)))
  front-goes p [] h n a e is ans = step-goes (with_left p []) h n a e is ans
  front-goes p (x ∷ ps) h n a e is ans = step-goes (with_left p (x ∷ ps)) h n a e is ans

  -- the parts of ROLLBACK
  undo-goes : (p : Point) (a : Act) → act_of head w c [] [] (due_by p.kept (Undos 0 ∷ Leaves (pos 0) 0 ∷ [])) ≡ a
      → GoesAt (with_left p (Undos 0 ∷ Leaves (pos 0) 0 ∷ [])) a
  undo-goes p a is = subst (GoesAt (with_left p (Undos 0 ∷ Leaves (pos 0) 0 ∷ []))) is
      (bare-goes head w c spared (Undo _) (Undos 0 ∷ Leaves (pos 0) 0 ∷ []) refl refl refl
      (record { collapse = refl; awaited = refl; freed = refl }) (inr refl))

  -- any parts of a connection that need not roll back
  pub readied-goes : (p : Point) (ps : List Part) → Readied w c ps → awaits_table (w.last c) ≡ awaited_of ps → (a : Act) → ends a ≡ false
      → act_of head w c (row_by ps) (rows_by p.kept ps) (due_by p.kept ps) ≡ a
      → AreAnswers (with_left p ps) (heard w (after head w (by_agent c a)) c a) → GoesAt (with_left p ps) a
  readied-goes p ps (inl (inl h)) n a e is ans = front-goes p ps h n a e is ans
  readied-goes p ps (inl (inr h)) n a e is ans =
      subst (λ z. act_of head w c (row_by z) (rows_by p.kept z) (due_by p.kept z) ≡ a → GoesAt (with_left p z) a) (sym h) (undo-goes p a) is
  readied-goes p ps (inr h) n a e is ans = absurd (never (ap ends ended ∙ e))
    where
      ended : Rollback (pos 0) 0 ≡ a
      ended = subst (λ z. act_of head w c (row_by z) (rows_by p.kept z) (due_by p.kept z) ≡ a) h.0 is

      never : true ≡ false → ⊥
      never q = cc

-- the same of a connection that has to roll back
module _ (head : Head) (w : World) (c : Conn) (r : ℕ) (doomed : w.doom c ≡ Some r) where
  abbrev RollsAt : Point → Act → Type 0
  RollsAt p a = GoesWith head w c a (told_all p (heard w (after head w (by_agent c a)) c a)).left

  undone-goes : (p : Point) (n : ℕ) → RollsAt (with_left p (rolling_list r)) (Undo n)
  undone-goes p n = record {
    collapse = refl;
    awaited = refl;
    frees = unfreed (after head w (by_agent c (Undo n))) c (rolling_list r) refl;
    fate = subst (λ o. FateIs o (rolling_list r)) (sym doomed) (inr refl);
  }

  pub rolled-goes : (p : Point) (ps : List Part) → Rolled w c r ps → (a : Act) → ends a ≡ false
      → act_of head w c (row_by ps) (rows_by p.kept ps) (due_by p.kept ps) ≡ a → RollsAt (with_left p ps) a
  rolled-goes p ps (inl h) a e is =
      subst (λ z. act_of head w c (row_by z) (rows_by p.kept z) (due_by p.kept z) ≡ a → RollsAt (with_left p z) a) (sym h.0)
      (λ k. subst (RollsAt (with_left p (rolling_list r))) k (undone-goes p _)) is
  rolled-goes p ps (inr h) a e is = absurd (never (ap ends ended ∙ e))
    where
      ended : Rollback (minus 911) r ≡ a
      ended = subst (λ z. act_of head w c (row_by z) (rows_by p.kept z) (due_by p.kept z) ≡ a) h.0 is

      never : true ≡ false → ⊥
      never q = cc
