-- What the calls that take a line come to, as steps of conduct.
use Rattle.std.proofs.Common.{◌≡◌, ℕ, Bool, true, false, ◌||◌, List, [], ◌∷◌, ◌++◌, refl, sym, ap, subst, ◌∙◌, Option, Some, None}
use Rattle.std.proofs.Common.{if◌then◌else◌, is_some, Result, Ok, Err, OnOk, OnErr}
use Rattle.std.specs.Option.{option_map_or}
use Rattle.std.specs.Prelude.{IfOk}
use Rattle.std.proofs.lemmas.Bool.{both_ways}
use Rattle.iso_conduct.specs.Conduct.{statement_in}
use Rattle.iso_conduct.specs.Pacing.{IsLine, line_step, step_of}
use Rattle.iso_director.specs.Turns.{HasTried}
use Rattle.iso_history.specs.Makers.{by_dispatcher}
use Rattle.iso_history.specs.Outcomes.{statement_step}
use Rattle.iso_history.specs.Phases.{is_phase, phase}
use Rattle.iso_history.specs.Quiet.{is_busy, is_quiet}
use Rattle.iso_history.specs.Stops.{is_full}
use Rattle.iso_history.specs.World.{World}
use Rattle.iso_history.specs.declared.entry.Act.{Act}
use Rattle.iso_history.specs.declared.entry.Act.TheVariants.{Busy, Dispatch, Expire, Snapshot}
use Rattle.iso_history.specs.declared.entry.Entry.{Entry}
use Rattle.iso_pace.specs.Answers.{answered, dispatched, expired, is_taken, shown, taken, line_step as statement_line}
use Rattle.iso_pace.specs.declared.lines.Paced.{Paced}
use Rattle.iso_pace.specs.declared.lines.Paced.TheVariants.{NotQuiet}
use Rattle.iso_queue.specs.Snapshots.{snapshot}
use Rattle.iso_script.specs.declared.script.Line.{Line}
use Rattle.iso_script.specs.declared.script.What.{What}
use Rattle.iso_types.specs.declared.desk.Phase.{Phase}
use Rattle.iso_types.specs.declared.desk.Phase.TheVariants.{Idle}
use Rattle.iso_types.specs.declared.head.Head.{Head}
use Rattle.iso_types.specs.declared.items.StepFault.{StepFault}
use Rattle.iso_types.specs.declared.items.StepFault.TheVariants.{HistoryFull}
use Rattle.iso_types.specs.declared.value.Conn.{Conn}

if-ok : {A E : Type 0} (P Q : A → Type 0) (r : Result A E) → ((a : A) → P a → Q a) → IfOk r P → IfOk r Q
if-ok P Q (Ok a) f p = f a p
if-ok P Q (Err e) f p = tt

-- an Err's fact, where the answer is one
err-of : {A E : Type 0} (P : Type 0) (r : Result A E) (e : E) → OnErr r P → r ≡ Err e → P
err-of P (Ok a) e p is = absurd (cc)
err-of P (Err f) e p is = p

module _ (head : Head) (w : World) (old new : List Entry) (r : Result Paced StepFault) where
  -- a step that is made in quiet alone
  quiet-tried : (q : Bool) (a : Act) (answer : Paced) → is_taken answer ≡ q → IfOk r (λ x. x ≡ answer)
      → (r ≡ Err HistoryFull → is_full head w (by_dispatcher a) ≡ true)
      → OnOk r (new ≡ old ++ (if is_taken answer then by_dispatcher a ∷ [] else [])) → OnErr r (is_taken answer ≡ true)
      → HasTried head w (if q then Some a else None) old new r
  quiet-tried true a answer e given full made due = record {
    answer = if-ok (λ x. x ≡ answer) (λ x. is_taken x ≡ true) r (λ x is. ap is_taken is ∙ e) given;
    ok = subst (λ (b : Bool). OnOk r (new ≡ old ++ (if b then by_dispatcher a ∷ [] else []))) e made;
    full = full;
    due = subst (λ (b : Bool). OnErr r (b ≡ true)) e due;
  }
  quiet-tried false a answer e given full made due = record {
    answer = if-ok (λ x. x ≡ answer) (λ x. is_taken x ≡ false) r (λ x is. ap is_taken is ∙ e) given;
    ok = subst (λ (b : Bool). OnOk r (new ≡ old ++ (if b then by_dispatcher a ∷ [] else []))) e made;
    full = λ is. absurd (both_ways (is_taken answer) e (err-of _ r HistoryFull due is));
    due = subst (λ (b : Bool). OnErr r (b ≡ true)) e due;
  }

  -- ---- a line EXPIRE or SNAPSHOT stands not behind `&`

  bound : (l : Line) → IsLine head l → is_some (statement_in l.what) ≡ false → l.free ≡ false
  bound l is none = go l.free refl
    where
      go : (b : Bool) → l.free ≡ b → l.free ≡ false
      go true e = absurd (both_ways _ none (is.free e))
      go false e = e

  quiet-step : (l : Line) (a : Act) → l.free ≡ false → step_of head w l.number l.what l.conn ≡ Some a
      → line_step head w l ≡ (if is_quiet head w then Some a else None)
  quiet-step l a e is =
      ap (λ (b : Bool). if b || is_quiet head w then step_of head w l.number l.what l.conn else None) e
      ∙ ap (λ (o : Option Act). if is_quiet head w then o else None) is

  pub expire-tried : (l : Line) (c : Conn) → IsLine head l → w.pace.stopped ≡ false → l.what ≡ What.Expire → l.conn ≡ Some c
      → IfOk r (λ x. x ≡ expired head w c)
      → (r ≡ Err HistoryFull → is_full head w (by_dispatcher (Expire l.number c (is_phase (phase w c) Phase.Waiting))) ≡ true)
      → OnOk r (new ≡ old ++ (if is_taken (expired head w c) then by_dispatcher (Expire l.number c (is_phase (phase w c) Phase.Waiting)) ∷ [] else []))
      → OnErr r (is_taken (expired head w c) ≡ true) → HasTried head w (line_step head w l) old new r
  expire-tried l c is going asks conn given full made due =
      let act = Expire l.number c (is_phase (phase w c) Phase.Waiting) in
      let step : line_step head w l ≡ (if is_quiet head w then Some act else None) =
      quiet-step l act (bound l is (ap (λ (x : What). is_some (statement_in x)) asks))
      (ap (λ (x : What). step_of head w l.number x l.conn) asks ∙ ap (λ (o : Option Conn). step_of head w l.number What.Expire o) conn) in
      subst (λ (s : Option Act). HasTried head w s old new r) (sym step)
      (quiet-tried (is_quiet head w) act (expired head w c) (taken-quiet (is_quiet head w) (is_phase (phase w c) Phase.Waiting)) given full made due)
    where
      taken-quiet : (q b : Bool) → is_taken (if w.pace.stopped then Paced.Stopping else if q then (if b then Paced.Done else Paced.NoEffect) else NotQuiet) ≡ q
      taken-quiet true true = rw going refl
      taken-quiet true false = rw going refl
      taken-quiet false b = rw going refl

  pub snapshot-tried : (l : Line) → IsLine head l → w.pace.stopped ≡ false → l.what ≡ What.Snapshot
      → IfOk r (λ x. x ≡ shown head w)
      → (r ≡ Err HistoryFull → is_full head w (by_dispatcher (Snapshot l.number (snapshot head w.holds w.waits))) ≡ true)
      → OnOk r (new ≡ old ++ (if is_taken (shown head w) then by_dispatcher (Snapshot l.number (snapshot head w.holds w.waits)) ∷ [] else []))
      → OnErr r (is_taken (shown head w) ≡ true) → HasTried head w (line_step head w l) old new r
  snapshot-tried l is going asks given full made due =
      let act = Snapshot l.number (snapshot head w.holds w.waits) in
      let step : line_step head w l ≡ (if is_quiet head w then Some act else None) =
      quiet-step l act (bound l is (ap (λ (x : What). is_some (statement_in x)) asks)) (ap (λ (x : What). step_of head w l.number x l.conn) asks) in
      subst (λ (s : Option Act). HasTried head w s old new r) (sym step)
      (quiet-tried (is_quiet head w) act (shown head w) (taken-quiet (is_quiet head w)) given full made due)
    where
      taken-quiet : (q : Bool) → is_taken (if w.pace.stopped then Paced.Stopping else if q then Paced.Done else NotQuiet) ≡ q
      taken-quiet true = rw going refl
      taken-quiet false = rw going refl

  -- ---- a statement's line

  step-statement : (n : ℕ) (what : What) (c : Conn) → is_some (statement_in what) ≡ true → step_of head w n what (Some c) ≡ statement_step head w n c
  step-statement n (What.Statement s) c h = refl
  step-statement n What.Expire c h = absurd (cc)
  step-statement n What.Snapshot c h = absurd (cc)

  statement-is : (l : Line) (c : Conn) → w.pace.stopped ≡ false → is_some (statement_in l.what) ≡ true → l.conn ≡ Some c
      → line_step head w l ≡ statement_line head w l.number c l.free
  statement-is l c going asks conn =
      ap (λ (o : Option Act). if l.free || is_quiet head w then o else None)
      (ap (step_of head w l.number l.what) conn ∙ step-statement l.number l.what c asks)
      ∙ sym (ap (λ (b : Bool). if b then None else if l.free || is_quiet head w then statement_step head w l.number c else None) going)

  -- by whether somebody stopped, the line may be taken, its connection is idle, or busy
  abbrev step_by : ℕ → Conn → Bool → Bool → Bool → Bool → Option Act
  step_by n c stopped may idle busy =
      if stopped then None else if may then (if idle then Some (Dispatch n c) else if busy then Some (Busy n c) else None) else None

  answered-is : (n : ℕ) (c : Conn) (free : Bool) → w.pace.stopped ≡ false → is_taken (dispatched head w n c free) ≡ is_some (statement_line head w n c free)
  answered-is n c free going = go w.pace.stopped going (free || is_quiet head w) (is_phase (phase w c) Idle) (is_busy head w c)
    where
      go : (s : Bool) → s ≡ false → (f i b : Bool)
          → is_taken (if s then Paced.Stopping else answered (step_by n c s f i b)) ≡ is_some (step_by n c s f i b)
      go true e f i b = absurd (cc)
      go false e false i b = refl
      go false e true true b = refl
      go false e true false true = refl
      go false e true false false = refl

  pub statement-tried : (l : Line) (c : Conn) → w.pace.stopped ≡ false → is_some (statement_in l.what) ≡ true → l.conn ≡ Some c
      → IfOk r (λ x. x ≡ dispatched head w l.number c l.free)
      → (r ≡ Err HistoryFull → option_map_or (λ a. is_full head w (by_dispatcher a)) (statement_line head w l.number c l.free) false ≡ true)
      → OnOk r (new ≡ old ++ taken (statement_line head w l.number c l.free))
      → OnErr r (is_some (statement_line head w l.number c l.free) ≡ true) → HasTried head w (line_step head w l) old new r
  statement-tried l c going asks conn given full made due =
      subst (λ (s : Option Act). HasTried head w s old new r) (sym (statement-is l c going asks conn))
      (record {
        answer = if-ok (λ x. x ≡ dispatched head w l.number c l.free) (λ x. is_taken x ≡ is_some (statement_line head w l.number c l.free)) r
            (λ x is. ap is_taken is ∙ answered-is l.number c l.free going) given;
        ok = made;
        full = full;
        due = due;
      })
