-- The parts after the dispatcher began a statement of an idle connection.
use Rattle.std.proofs.Common.{◌≡◌, ◌≤◌, ◌<◌, ◌+◌, inl, inr, ℕ, Bool, true, false, List, [], length, refl, ap, sym, ◌∙◌, arith, subst, Some, None, Option}
use Rattle.std.specs.Prelude.{if◌then◌else◌, is_some, slice_set, IfSome, unwrap_or}
use Rattle.std.proofs.Math.ListN.{length-set}
use Rattle.iso_chain.proofs.Carries.{RowsMore, no-row}
use Rattle.iso_chain.proofs.Units.{begin-chained, resume-chained}
use Rattle.iso_chain.specs.Stands.{AreChained, Chained}
use Rattle.iso_history.proofs.limits.Others.{at-other, at-same, others-dispatch}
use Rattle.iso_history.specs.After.{after, world}
use Rattle.iso_history.specs.Courses.{NoneLeft}
use Rattle.iso_history.specs.Legal.{ByDispatcher}
use Rattle.iso_history.specs.Makers.{by_dispatcher}
use Rattle.iso_history.specs.Paces.{pace_by}
use Rattle.iso_history.specs.Phases.{phase}
use Rattle.iso_history.specs.Records.{count, left}
use Rattle.iso_history.specs.Reserves.{reserves_more}
use Rattle.iso_history.specs.Stops.{is_full}
use Rattle.iso_history.specs.World.{World}
use Rattle.iso_history.specs.declared.entry.Act.TheVariants.{Dispatch}
use Rattle.iso_history.specs.declared.entry.Who.TheVariants.{Dispatcher}
use Rattle.iso_types.specs.declared.desk.Desk.{Desk}
use Rattle.iso_types.specs.declared.desk.Phase.TheVariants.{Idle, Running}
use Rattle.iso_types.specs.declared.value.Conn.{Conn}
use Rattle.iso_uow.specs.Book.{Book, new_work, with_work}
use Rattle.iso_uow.specs.declared.units.Work.{Work}
use Rattle.iso_state.proofs.ByKind.{full-is, ready-allowed}
use Rattle.iso_state.proofs.Desks.{desks-set, dispatcher-kept}
use Rattle.iso_state.proofs.FactsAlong.{count-of, none_left-of, within-of, work-there}
use Rattle.iso_state.proofs.Phases.{dispatch-at}
use Rattle.iso_state.proofs.Steps.{conn-is, own-desk, same-limits, step-place}
use Rattle.iso_state.specs.Changes.{repaced, stepped}
use Rattle.iso_state.specs.Stands.{Content, HasPlace, IsDeskOf, Stands, StandsFor, content_of, desk_at, world_of}
use Rattle.iso_state.specs.Steps.{IsReady, Spends, is_past}
use Rattle.iso_state.specs.declared.parts.Parts.{Parts}
use Rattle.iso_pace.specs.Answers.{MayTakeLine}
use Rattle.iso_pace.proofs.Begins.{first-later, no-marks}
use Rattle.iso_pace.proofs.Stills.{may-take}

-- a desk at which a statement begins
abbrev pub begun_desk : Desk → ℕ → ℕ → Desk
begun_desk d line start = record d { phase = Running; line = line; start = start }

-- a book by its number of units and its works
book-is : (b : Book) (n : ℕ) (works : List (Option Work)) → b.begun ≡ n → b.works ≡ works → b ≡ record { begun = n; works = works }
book-is b n works e f =
    ap (λ (m : ℕ). record { begun = m; works = b.works }) e ∙ ap (λ (l : List (Option Work)). record { begun = n; works = l }) f

-- what the step of a Dispatch asks
pub record MayBegin (x : Content) (c : Conn) : Type 0 where
  pub free : (world x.head x.history).pace.finished ≡ false
  pub may : MayTakeLine x.head (world x.head x.history)
  pub going : (world x.head x.history).pace.stopped ≡ false
  pub within : c.0 < length x.head.conns
  pub idle : phase (world x.head x.history) c ≡ Idle

begin-by : (x : Content) (line : ℕ) (c : Conn) → MayBegin x c → ByDispatcher x.head (world x.head x.history) (Dispatch line c)
begin-by x line c m = (conn-is x.head c m.within, m.idle, may-take x.head (world x.head x.history) m.may m.going)

-- it is full exactly where it is past the limit, by what it adds
pub begin-full : (x : Content) (line : ℕ) (c : Conn) (more : ℕ) → Stands x → MayBegin x c
    → more ≡ reserves_more (world x.head x.history) Dispatcher (Dispatch line c) + 1
    → is_past x more ≡ true → is_full x.head (world x.head x.history) (by_dispatcher (Dispatch line c)) ≡ true
begin-full x line c more s m is past =
    full-is x Dispatcher (Dispatch line c) more s m.free (begin-by x line c m) refl (omega (arith, is)) ∙ past

-- without a unit it adds one whole unit's reserve
pub more-none : (w : World) (line : ℕ) (c : Conn) → w.unit c ≡ None → reserves_more w Dispatcher (Dispatch line c) ≡ 2
more-none w line c e = ap (λ (o : Option ℕ). if is_some o then 0 else 2) e

pub more-some : (w : World) (line : ℕ) (c : Conn) → is_some (w.unit c) ≡ true → reserves_more w Dispatcher (Dispatch line c) ≡ 0
more-some w line c e = ap (λ (b : Bool). if b then 0 else 2) e

begin-desk : (x : Content) (line : ℕ) (c : Conn) (d : Desk) → Stands x → phase (world x.head x.history) c ≡ Idle → IsDeskOf (world x.head x.history) c d
    → IsDeskOf (after x.head (world x.head x.history) (by_dispatcher (Dispatch line c))) c (begun_desk d line (length x.chain.log))
begin-desk x line c d s idle is =
    let w = world x.head x.history in
    record {
      phase = sym (dispatch-at x.head w c line idle);
      line = subst (λ (o : Option ℕ). IfSome o (λ n. line ≡ n)) (sym (at-same w.line c (Some line))) refl;
      isolation = is.isolation;
      may_wait = is.may_wait;
      doom = is.doom;
      start = count-of s ∙ sym (at-same w.floor c (count w));
      claimed = is.claimed;
    }

-- the parts after it, with what it makes of units and reserves
begin-place : (x : Content) (line : ℕ) (c : Conn) (k : Chained) (n more old new log_old log_new : ℕ) → HasPlace x old log_old → MayBegin x c
    → AreChained (after x.head (world x.head x.history) (by_dispatcher (Dispatch line c))) k → RowsMore x.chain.log k.log (Dispatch line c)
    → length k.book.works ≡ length x.chain.book.works
    → reserves_more (world x.head x.history) Dispatcher (Dispatch line c) ≡ more → n ≡ x.reserved + more → is_past x (more + 1) ≡ false
    → x.reserved + 3 ≤ old → old ≤ new + 1 → log_old ≤ log_new
    → HasPlace (repaced (stepped x k x.locks (slice_set x.desks c.0 (begun_desk (desk_at x.desks c) line (length x.chain.log))) n (by_dispatcher (Dispatch line c)))
    (pace_by x.pace Dispatcher (Dispatch line c))) new log_new
begin-place x line c k n more old new log_old log_new s m are carried works is sum fits spare pushed logged =
    let w = world x.head x.history in
    let v = after x.head w (by_dispatcher (Dispatch line c)) in
    let desk = begun_desk (desk_at x.desks c) line (length x.chain.log) in
    step-place x (by_dispatcher (Dispatch line c)) k x.locks (slice_set x.desks c.0 desk) n old new log_old log_new s
    (ready-allowed x Dispatcher (Dispatch line c) (more + 1) s.stands m.free (begin-by x line c m) refl (omega (arith, is)) fits)
    (record { made = inl spare; pushed = pushed; logged = omega (arith, logged); bare = refl })
    (record {
      chain = are;
      carried = carried;
      works = works;
      entries = refl;
      locks = s.parts.locks;
      limits = same-limits x.locks;
      desks = desks-set v w x.desks c desk
          (begin-desk x line c (desk_at x.desks c) s.stands m.idle (own-desk x c (desk_at x.desks c) s.stands m.within refl))
          (λ d y ne at. dispatcher-kept x.head w (Dispatch line c) d y (others-dispatch x.head w line c d ne) (at-other w.floor c (count w) d ne) at)
          s.parts.desks;
      seats = length-set x.desks c.0 desk;
      reserved = omega (arith, is, sum);
    })

has-number : (o : Option ℕ) → is_some o ≡ true → o ≡ Some (unwrap_or o 0)
has-number None e = absurd (cc)
has-number (Some u) e = refl

-- a statement of a unit that is open already; `o` are the parts as they were found, `p` those with room
pub resumed : (o p q : Parts) (line : ℕ) (c : Conn) → StandsFor p → content_of p ≡ content_of o → IsReady p 1 → Spends p q → MayBegin (content_of o) c
    → is_some ((world_of o).unit c) ≡ true
    → content_of q ≡ repaced (stepped (content_of p) (content_of p).chain p.locks
    (slice_set p.desks c.0 (begun_desk (desk_at p.desks c) line (length p.log.records))) p.reserved (by_dispatcher (Dispatch line c)))
    (pace_by (content_of p).pace Dispatcher (Dispatch line c))
    → StandsFor q
resumed o p q line c s same ready spends may has wrote =
    let x = content_of p in
    let m = subst (λ (y : Content). MayBegin y c) (sym same) may in
    let has_one = subst (λ (y : Content). is_some ((world y.head y.history).unit c) ≡ true) (sym same) has in
    let u = unwrap_or ((world_of p).unit c) 0 in
    subst (λ (y : Content). HasPlace y q.history.spare q.log.spare) (sym wrote)
    (begin-place x line c x.chain p.reserved 0 p.history.spare q.history.spare p.log.spare q.log.spare s m
    (resume-chained p.head (world_of p) x.chain line c u s.parts.chain (has-number ((world_of p).unit c) has_one)) (no-row x.chain.log (Dispatch line c) refl) refl
    (more-some (world_of p) line c has_one) (omega arith) ready.fits ready.spare spends.history spends.log)

-- the next unit has nothing left
next-left : (w : World) → NoneLeft w.begun w.records → left w.records (w.begun + 1) ≡ []
unfolding NoneLeft
next-left w h = h (w.begun + 1) (inr (omega arith))

-- a statement that begins its unit
pub begun : (o p q : Parts) (line : ℕ) (c : Conn) → StandsFor p → content_of p ≡ content_of o → IsReady p 3 → Spends p q → MayBegin (content_of o) c
    → (world_of o).unit c ≡ None → (b : Book) → b.begun ≡ p.units.begun + 1
    → b.works ≡ with_work p.units.works c (Some (new_work (p.units.begun + 1)))
    → content_of q ≡ repaced (stepped (content_of p) (record (content_of p).chain { book = b }) p.locks
    (slice_set p.desks c.0 (begun_desk (desk_at p.desks c) line (length p.log.records))) (p.reserved + 2) (by_dispatcher (Dispatch line c)))
    (pace_by (content_of p).pace Dispatcher (Dispatch line c))
    → StandsFor q
begun o p q line c s same ready spends may none b number works wrote =
    let x = content_of p in
    let w = world_of p in
    let m = subst (λ (y : Content). MayBegin y c) (sym same) may in
    let shut = subst (λ (y : Content). (world y.head y.history).unit c ≡ None) (sym same) none in
    subst (λ (y : Content). HasPlace y q.history.spare q.log.spare) (sym wrote)
    (begin-place x line c (record x.chain { book = b }) (p.reserved + 2) 2 p.history.spare q.history.spare p.log.spare q.log.spare s m
    (subst (λ (z : Book). AreChained (after p.head w (by_dispatcher (Dispatch line c))) (record x.chain { book = z }))
    (sym (book-is b (p.units.begun + 1) (with_work p.units.works c (Some (new_work (p.units.begun + 1)))) number works))
    (begin-chained p.head w x.chain line c s.parts.chain (work-there s.stands c m.within) shut (no-marks p.head p.history.items s.ground c shut)
    (first-later w (within-of s.stands).notes) (next-left w (none_left-of s.stands))))
    (no-row x.chain.log (Dispatch line c) refl)
    (ap (λ (l : List (Option Work)). length l) works ∙ length-set x.chain.book.works c.0 (Some (new_work (x.chain.book.begun + 1)))) (more-none w line c shut) refl ready.fits ready.spare spends.history spends.log)
