-- In every legal history without Finish the dispatcher has an entry to make, or an agent is able.
use Rattle.std.proofs.Common.{◌≡◌, ℕ, ◌≤◌, ◌⊎◌, inl, inr, Bool, true, false, not, ◌&&◌, ◌||◌, List, [], ◌∷◌, map, length, filter, find, refl, sym, subst, arith, Option, Some, None, if◌then◌else◌, ◌+◌, is_some, is_none, option_map, MatchOption}
use Rattle.std.specs.List.{list_all, list_any}
use Rattle.std.specs.Option.{option_map_or, option_or}
use Rattle.std.proofs.lemmas.Bool.{and_from, and_parts, both_ways, not-true}
use Rattle.iso_conduct.proofs.ProgressEdges.{among-conns, among-kept, among-passes, history-targets, stuck-on}
use Rattle.iso_conduct.proofs.ProgressHolders.{AreLive, IsLive, live-world}
use Rattle.iso_conduct.proofs.ProgressOver.{EndsOver, left-all, over-world}
use Rattle.iso_conduct.specs.Pacing.{Paced, is_over, line_step, lines_left, purge_of, purge_or_line, step_of, taking}
use Rattle.iso_conduct.specs.Schedule.{actors, can_act, dispatcher_step, ending_step, first_step}
use Rattle.iso_history.proofs.limits.Made.{made-is}
use Rattle.iso_history.proofs.limits.Within.{limit-holds}
use Rattle.iso_history.specs.After.{world}
use Rattle.iso_history.specs.Entries.{least_purgeable}
use Rattle.iso_history.specs.Legal.{Ground}
use Rattle.iso_history.specs.Phases.{is_phase, phase, phase_of}
use Rattle.iso_history.specs.Quiet.{all_ended, cycle_in, edges_in, is_able, is_busy, is_quiet, is_resting, least_idle, waits_stuck}
use Rattle.iso_history.specs.Stops.{history_limit, needs}
use Rattle.iso_history.specs.World.{World}
use Rattle.iso_history.specs.declared.entry.Act.{Act}
use Rattle.iso_history.specs.declared.entry.Entry.{Entry}
use Rattle.iso_history.specs.declared.entry.Who.{Who}
use Rattle.iso_history.specs.declared.entry.Who.TheVariants.{Agent}
use Rattle.iso_queue.specs.Queues.{Wait, edges, has_edge, is_grantable, wait_of}
use Rattle.iso_queue.specs.Snapshots.{snapshot}
use Rattle.iso_script.specs.Sound.{IsSound, is_sound_line, is_sound_what}
use Rattle.iso_script.specs.declared.script.Line.{Line}
use Rattle.iso_script.specs.declared.script.Script.{Script}
use Rattle.iso_script.specs.declared.script.What.{What}
use Rattle.iso_types.specs.Cycles.{HasNoCycle, IsChosen, IsCycle, chosen_cycle, is_among, is_on_cycle}
use Rattle.iso_types.specs.Head.{conns}
use Rattle.iso_types.specs.declared.desk.Phase.{Phase}
use Rattle.iso_types.specs.declared.desk.Phase.TheVariants.{Closing, Idle, Rolling, Running}
use Rattle.iso_types.specs.declared.head.Head.{Head}
use Rattle.iso_types.specs.declared.value.Conn.{Conn}
use Rattle.iso_types.specs.declared.value.IndexId.{IndexId}
use Rattle.iso_types.specs.declared.value.Rid.{Rid}
use Rattle.iso_types.specs.declared.value.Value.{Value}
use Rattle.iso_waitgraph.proofs.Agree.{chosen, on-cycle}
use Rattle.iso_waitgraph.proofs.Members.{among-cases, among-first, among-rest}
use Rattle.iso_waitgraph.proofs.Paths.{cycle-inside}
use Rattle.iso_waitgraph.specs.Targets.{AreTargets}

-- ---- tests of lists

all-from : (p : Conn → Bool) (cs : List Conn) → ((c : Conn) → is_among c cs ≡ true → p c ≡ true) → list_all p cs ≡ true
all-from p [] h = refl
all-from p (c ∷ cs) h = and_from (p c) (list_all p cs) (h c (among-first c cs)) (all-from p cs (λ d on. h d (among-rest d c cs on)))

-- one that does not pass
one-fails : (p : Conn → Bool) (cs : List Conn) → list_all p cs ≡ false → (c : Conn) × (is_among c cs ≡ true) × (p c ≡ false)
one-fails p [] h = absurd (both_ways true h refl)
one-fails p (c ∷ cs) h = decide (one-fails p cs) (p c) refl h where
  decide : (list_all p cs ≡ false → (d : Conn) × (is_among d cs ≡ true) × (p d ≡ false))
      → (b : Bool) → p c ≡ b → (p c && list_all p cs) ≡ false → (d : Conn) × (is_among d (c ∷ cs) ≡ true) × (p d ≡ false)
  decide ih true e k = let t : (d : Conn) × (is_among d cs ≡ true) × (p d ≡ false) = ih (rw e at k) in (t.0, among-rest t.0 c cs t.1, t.2)
  decide ih false e k = (c, among-first c cs, e)

-- none is found: none passes
none-found : (p : Conn → Bool) (cs : List Conn) → find p cs ≡ None → (c : Conn) → is_among c cs ≡ true → p c ≡ false
none-found p [] e c on = absurd (both_ways false refl on)
none-found p (d ∷ ds) e c on = decide (none-found p ds) (p d) refl e where
  decide : (find p ds ≡ None → (x : Conn) → is_among x ds ≡ true → p x ≡ false) → (b : Bool) → p d ≡ b → (if p d then Some d else find p ds) ≡ None
      → p c ≡ false
  decide ih true t k = absurd (some-none d (rw t at k))
    where
      some-none : (x : Conn) → Some x ≡ None → ⊥
      some-none x k = cc
  decide ih false f k = elim (among-cases c d ds on) [
    | inl s ↦ let P : Conn → Type 0 = λ z. p z ≡ false in subst P (sym s) f
    | inr r ↦ ih (rw f at k) c r
  ]

-- nobody passes
none-of : (q : Who → Bool) (cs : List Conn) → list_any q (map Agent cs) ≡ false → (c : Conn) → is_among c cs ≡ true → q (Agent c) ≡ false
none-of q [] h c on = absurd (both_ways false refl on)
none-of q (d ∷ ds) h c on =
    let t : (q (Agent d) ≡ false) × (list_any q (map Agent ds) ≡ false) = neither (q (Agent d)) (list_any q (map Agent ds)) h in
    elim (among-cases c d ds on) [
      | inl s ↦ let P : Conn → Type 0 = λ z. q (Agent z) ≡ false in subst P (sym s) t.0
      | inr r ↦ none-of q ds t.1 c r
    ]
  where
    neither : (a b : Bool) → (a || b) ≡ false → (a ≡ false) × (b ≡ false)
    neither true b h = absurd (both_ways true h refl)
    neither false b h = (refl, h)

-- ---- options

not-some : {A : Type 0} (x : A) → Some x ≡ None → ⊥
not-some x e = cc

or-none : {A : Type 0} (a b : Option A) → option_or a b ≡ None → (a ≡ None) × (b ≡ None)
or-none None b e = (refl, e)
or-none (Some x) b e = absurd (not-some x e)

map-none : {A B : Type 0} (f : A → B) (a : Option A) → option_map f a ≡ None → a ≡ None
map-none f None e = refl
map-none f (Some x) e = absurd (not-some (f x) e)

none-is : {A : Type 0} (a : Option A) → is_some a ≡ false → a ≡ None
none-is None e = refl
none-is (Some x) e = absurd (both_ways true e refl)

-- ---- a connection that is not able

-- it is idle, it has ended, or it waits with an edge
abbrev IsStill : World → Conn → Type 0
IsStill w c = (phase w c ≡ Idle) ⊎ (phase w c ≡ Phase.Ended)
    ⊎ ((phase w c ≡ Phase.Waiting) × ((x : Wait) × (wait_of w.waits c ≡ Some x) × (has_edge w.holds w.waits x ≡ true)))

waiting-by : (e k d t s : Bool) → phase_of e k d t s ≡ Phase.Waiting → t ≡ true
waiting-by true k d t s h = absurd (cc)
waiting-by false true d t s h = absurd (cc)
waiting-by false false true t s h = absurd (cc)
waiting-by false false false true s h = refl
waiting-by false false false false true h = absurd (cc)
waiting-by false false false false false h = absurd (cc)

ended-by : (e k d t s : Bool) → phase_of e k d t s ≡ Phase.Ended → e ≡ true
ended-by true k d t s h = refl
ended-by false true d t s h = absurd (cc)
ended-by false false true t s h = absurd (cc)
ended-by false false false true s h = absurd (cc)
ended-by false false false false true h = absurd (cc)
ended-by false false false false false h = absurd (cc)

module _ (w : World) (c : Conn) (off : is_able w c ≡ false) where
  -- whether it is able, by its phase
  abbrev able_in : Phase → Bool
  able_in p = (is_phase p Running || is_phase p Rolling || is_phase p Closing) || (is_phase p Phase.Waiting && is_grantable w.holds w.waits c)

  off-in : (p : Phase) → phase w c ≡ p → able_in p ≡ false
  off-in p e = subst (λ (x : Phase). able_in x ≡ false) e off

  stuck : (o : Option Wait) → wait_of w.waits c ≡ o → is_some o ≡ true → option_map_or (λ x. not (has_edge w.holds w.waits x)) o false ≡ false
      → (x : Wait) × (wait_of w.waits c ≡ Some x) × (has_edge w.holds w.waits x ≡ true)
  stuck None is some none = absurd (both_ways false refl some)
  stuck (Some x) is some none = (x, is, decide (has_edge w.holds w.waits x) refl none) where
    decide : (b : Bool) → has_edge w.holds w.waits x ≡ b → not b ≡ false → has_edge w.holds w.waits x ≡ true
    decide true e n = e
    decide false e n = absurd (both_ways true n refl)

  still : IsStill w c
  still = go (phase w c) refl where
    go : (p : Phase) → phase w c ≡ p → IsStill w c
    go Idle e = inl e
    go Phase.Ended e = inr (inl e)
    go Phase.Waiting e =
        inr (inr (e, stuck (wait_of w.waits c) refl (waiting-by (w.ended c) (w.closing c) _ _ _ e) (off-in Phase.Waiting e)))
    go Running e = absurd (both_ways true (off-in Running e) refl)
    go Rolling e = absurd (both_ways true (off-in Rolling e) refl)
    go Closing e = absurd (both_ways true (off-in Closing e) refl)

  -- the test that it waits with an edge
  stuck-test : phase w c ≡ Phase.Waiting → (x : Wait) → wait_of w.waits c ≡ Some x → has_edge w.holds w.waits x ≡ true → waits_stuck w c ≡ true
  stuck-test e x is h = rw (e, is, h) refl

  resting : is_resting w c ≡ true
  resting = elim still [
    | inl e ↦ rw e refl
    | inr r ↦ elim r [
      | inl e ↦ rw e refl
      | inr s ↦ rest (stuck-test s.0 s.1.0 s.1.1 s.1.2)
    ]
  ] where
    rest : waits_stuck w c ≡ true → (is_phase (phase w c) Idle || is_phase (phase w c) Phase.Ended || waits_stuck w c) ≡ true
    rest h = or-right (is_phase (phase w c) Idle || is_phase (phase w c) Phase.Ended) (waits_stuck w c) h where
      or-right : (a b : Bool) → b ≡ true → (a || b) ≡ true
      or-right true b h = refl
      or-right false b h = h

-- ---- no agent is able, and the dispatcher has nothing to do

-- whether the first has an edge to the second
abbrev pub edge_in : Head → World → Conn → Conn → Bool
edge_in head w c d = is_among c (conns head) && is_among d (edges_in head w c)

targets-in : (head : Head) (w : World) → AreTargets (edge_in head w) (edges_in head w) (conns head)
targets-in head w = history-targets head w.holds w.waits (edge_in head w) (λ c d. refl)

-- where no cycle is chosen there is none
no-cycle : (head : Head) (w : World) → cycle_in head w ≡ None → HasNoCycle (edge_in head w)
no-cycle head w e =
    let h : MatchOption (chosen_cycle (edges_in head w) (conns head)) (HasNoCycle (edge_in head w)) (IsChosen (edge_in head w)) =
    chosen (edge_in head w) (edges_in head w) (conns head) (targets-in head w) in
    subst (λ (o : Option (List Conn)). MatchOption o (HasNoCycle (edge_in head w)) (IsChosen (edge_in head w))) e h

module _ (head : Head) (w : World) (ls : List Line) (live : AreLive head w) (over : EndsOver w ls)
    (off : (c : Conn) → is_among c (conns head) ≡ true → is_able w c ≡ false) (none : cycle_in head w ≡ None) where
  quiet : is_quiet head w ≡ true
  quiet =
      and_from (list_all (is_resting w) (conns head)) (is_none (cycle_in head w))
      (all-from (is_resting w) (conns head) (λ c on. resting w c (off c on))) (rw none refl)

  -- ---- at the end

  -- who has not ended, where nobody is idle, waits with an edge
  waits-on : (c : Conn) → is_among c (conns head) ≡ true → is_phase (phase w c) Idle ≡ false → w.ended c ≡ false
      → (x : Wait) × (wait_of w.waits c ≡ Some x) × (has_edge w.holds w.waits x ≡ true)
  waits-on c on busy alive = elim (still w c (off c on)) [
    | inl e ↦ absurd (both_ways (is_phase (phase w c) Idle) busy (rw e refl))
    | inr r ↦ elim r [
      | inl e ↦ absurd (both_ways (w.ended c) alive (ended-by (w.ended c) (w.closing c) _ _ _ e))
      | inr s ↦ s.1
    ]
  ]

  -- so there is none
  nobody-left : ((c : Conn) → is_among c (conns head) ≡ true → is_phase (phase w c) Idle ≡ false) → (c : Conn) → is_among c (conns head) ≡ true
      → w.ended c ≡ false → ⊥
  nobody-left busy c on alive =
      cycle-inside (edge_in head w) (filter (λ d. not (w.ended d)) (conns head)) c (among-kept (λ d. not (w.ended d)) c (conns head) on (rw alive refl))
      inside (no-cycle head w none)
    where
      inside : (d : Conn) → is_among d (filter (λ e. not (w.ended e)) (conns head)) ≡ true
          → (e : Conn) × (is_among e (filter (λ f. not (w.ended f)) (conns head)) ≡ true) × (edge_in head w d e ≡ true)
      inside d i =
          let p : (is_among d (conns head) ≡ true) × (not (w.ended d) ≡ true) = among-passes (λ e. not (w.ended e)) d (conns head) i in
          let s : (x : Wait) × (wait_of w.waits d ≡ Some x) × (has_edge w.holds w.waits x ≡ true) = waits-on d p.0 (busy d p.0) (not-true (w.ended d) p.1) in
          let t : (e : Conn) × IsLive head w.ended e × (is_among e (edges (conns head) w.holds w.waits d) ≡ true) = stuck-on head w d s.0 live s.1 s.2 in (
            t.0,
            among-kept (λ f. not (w.ended f)) t.0 (conns head) (among-conns head t.0 t.1.0) (rw t.1.1 refl),
            and_from (is_among d (conns head)) (is_among t.0 (edges_in head w d)) p.0 t.2,
          )

  ending-some : ending_step head w ≡ None → ⊥
  ending-some e =
      let closing : Option Act = if is_quiet head w then option_map Act.Close (least_idle head w) else None in
      let finishing : Option Act = if all_ended head w then Some Act.Finish else None in
      let t : (closing ≡ None) × (finishing ≡ None) = or-none closing finishing e in
      let close : option_map Act.Close (least_idle head w) ≡ None = rw quiet at t.0 in
      let idle : least_idle head w ≡ None = map-none Act.Close (least_idle head w) close in
      finish (all_ended head w) refl idle t.1
    where
      finish : (b : Bool) → all_ended head w ≡ b → least_idle head w ≡ None → (if all_ended head w then Some Act.Finish else None) ≡ None → ⊥
      finish true a idle k = not-some Act.Finish (rw a at k)
      finish false a idle k =
          let t : (c : Conn) × (is_among c (conns head) ≡ true) × (w.ended c ≡ false) = one-fails w.ended (conns head) a in
          nobody-left (none-found (λ c. is_phase (phase w c) Idle) (conns head) idle) t.0 t.1 t.2

  -- ---- with a line left

  -- nobody has ended
  module _ (going : is_over w ls ≡ false) where
    -- who is not idle is busy
    busy-if : (c : Conn) → is_among c (conns head) ≡ true → is_phase (phase w c) Idle ≡ false → is_busy head w c ≡ true
    busy-if c on busy = elim (still w c (off c on)) [
      | inl e ↦ absurd (both_ways (is_phase (phase w c) Idle) busy (rw e refl))
      | inr r ↦ elim r [
        | inl e ↦
            let past : w.ended c ≡ true = ended-by (w.ended c) (w.closing c) _ _ _ e in
            absurd (both_ways (is_over w ls) going (over c (right (w.closing c) (w.ended c) past)))
        | inr s ↦
            and_from (waits_stuck w c) (not (is_on_cycle (edges_in head w) (conns head) c)) (stuck-test w c (off c on) s.0 s.1.0 s.1.1 s.1.2)
            (off-cycle (is_on_cycle (edges_in head w) (conns head) c) refl)
      ]
    ] where
      right : (a b : Bool) → b ≡ true → (a || b) ≡ true
      right true b h = refl
      right false b h = h

      off-cycle : (b : Bool) → is_on_cycle (edges_in head w) (conns head) c ≡ b → not (is_on_cycle (edges_in head w) (conns head) c) ≡ true
      off-cycle false e = rw e refl
      off-cycle true e =
          let t : (q : List Conn) × IsCycle (edge_in head w) q × (is_among c q ≡ true) =
          (on-cycle (edge_in head w) (edges_in head w) (conns head) (targets-in head w) c).0 e in
          absurd (no-cycle head w none t.0 t.1)

    step-some : (n : ℕ) (what : What) (o : Option Conn) (free : Bool) → is_sound_what head o what free ≡ true → step_of head w n what o ≡ None → ⊥
    step-some n (What.Statement s) (Some c) free sound e = go (is_phase (phase w c) Idle) refl (is_busy head w c) refl e where
      go : (i : Bool) → is_phase (phase w c) Idle ≡ i → (b : Bool) → is_busy head w c ≡ b
          → (if i then Some (Act.Dispatch n c) else if b then Some (Act.Busy n c) else None) ≡ None → ⊥
      go true idle b busy k = not-some (Act.Dispatch n c) k
      go false idle true busy k = not-some (Act.Busy n c) k
      go false idle false busy k =
          both_ways (is_busy head w c) busy (busy-if c (among-conns head c (and_parts _ _ sound).0) idle)
    step-some n (What.Statement s) None free sound e = both_ways false refl sound
    step-some n What.Expire (Some c) free sound e = not-some (Act.Expire n c (is_phase (phase w c) Phase.Waiting)) e
    step-some n What.Expire None free sound e = both_ways false refl sound
    step-some n What.Snapshot o free sound e = not-some (Act.Snapshot n (snapshot head w.holds w.waits)) e

    line-some : (l : Line) → is_sound_line head l ≡ true → line_step head w l ≡ None → ⊥
    line-some l sound e = step-some l.number l.what l.conn l.free sound (past l.free e) where
      past : (b : Bool) → (if b || is_quiet head w then step_of head w l.number l.what l.conn else None) ≡ None → step_of head w l.number l.what l.conn ≡ None
      past true k = k
      past false k = rw quiet at k

    purge-some : (l : Line) → is_sound_line head l ≡ true → (p : Bool) (o : Option (IndexId × (Value × Rid))) → purge_or_line head w l p o ≡ None → ⊥
    purge-some l sound false (Some pair) e = not-some (purge_of pair) e
    purge-some l sound false None e = line-some l sound e
    purge-some l sound true (Some pair) e = line-some l sound e
    purge-some l sound true None e = line-some l sound e

  taking-some : (rest : List Line) → rest ≡ ls → is_over w rest ≡ false → list_all (is_sound_line head) rest ≡ true → taking head w rest ≡ None → ⊥
  taking-some [] same going sound e = both_ways true going refl
  taking-some (l ∷ rest) same going sound e =
      let on : w.pace.stopped ≡ false = going in
      let k : purge_or_line head w l w.pace.purged (least_purgeable head w) ≡ None = rw on at e in
      let kept : is_over w ls ≡ false = subst (λ (x : List Line). is_over w x ≡ false) same going in
      purge-some kept l (and_parts (is_sound_line head l) (list_all (is_sound_line head) rest) sound).0 w.pace.purged (least_purgeable head w) k

  first-some : list_all (is_sound_line head) ls ≡ true → option_or (taking head w ls) (if is_over w ls then ending_step head w else None) ≡ None → ⊥
  first-some sound e =
      let t : (taking head w ls ≡ None) × ((if is_over w ls then ending_step head w else None) ≡ None) = or-none _ _ e in
      go (is_over w ls) refl t.0 t.1
    where
      go : (b : Bool) → is_over w ls ≡ b → taking head w ls ≡ None → (if is_over w ls then ending_step head w else None) ≡ None → ⊥
      go true o k j = ending-some (rw o at j)
      go false o k j = taking-some ls refl o sound k

-- where no agent is able, the dispatcher has an entry
dispatcher-able : (head : Head) (w : World) (ls : List Line) → AreLive head w → EndsOver w ls → list_all (is_sound_line head) ls ≡ true
    → w.pace.finished ≡ false
    → ((c : Conn) → is_among c (conns head) ≡ true → is_able w c ≡ false) → dispatcher_step head w ls ≡ None → ⊥
dispatcher-able head w ls live over sound going off e =
    let f : first_step head w ls ≡ None = map-none _ (first_step head w ls) e in
    let g : option_or (option_map Act.Victim (cycle_in head w)) (option_or (taking head w ls) (if is_over w ls then ending_step head w else None)) ≡ None =
    rw going at f in
    let t : (option_map Act.Victim (cycle_in head w) ≡ None) × (option_or (taking head w ls) (if is_over w ls then ending_step head w else None) ≡ None) =
    or-none _ _ g in
    first-some head w ls live over off (map-none Act.Victim (cycle_in head w) t.0) sound t.1

-- some actor of the circle can act
able-in : (head : Head) (w : World) (ls : List Line) → AreLive head w → EndsOver w ls → list_all (is_sound_line head) ls ≡ true → w.pace.finished ≡ false
    → list_any (can_act head w ls) (actors head) ≡ true
able-in head w ls live over sound going = go (is_some (dispatcher_step head w ls)) refl (list_any (can_act head w ls) (map Agent (conns head))) refl where
  go : (a : Bool) → is_some (dispatcher_step head w ls) ≡ a → (b : Bool) → list_any (can_act head w ls) (map Agent (conns head)) ≡ b
      → (a || b) ≡ true
  go true e b f = refl
  go false e true f = refl
  go false e false f =
      absurd (dispatcher-able head w ls live over sound going (none-of (can_act head w ls) (conns head) f) (none-is (dispatcher_step head w ls) e))

pub some-able : (script : Script) (es : List Entry) → IsSound script → Ground script.head es → Paced script.head script.lines es
    → (world script.head es).pace.finished ≡ false
    → list_any (can_act script.head (world script.head es) (lines_left script.lines es)) (actors script.head) ≡ true
some-able script es sound g p going =
    able-in script.head (world script.head es) (lines_left script.lines es) (live-world script.head es g) (over-world script.head script.lines es g p)
    (left-all (is_sound_line script.head) script.lines es sound.lines) going

pub bounded : (script : Script) (es : List Entry) → IsSound script → Ground script.head es → length es ≤ history_limit
bounded script es sound g =
    let limit : (world script.head es).made + needs script.head (world script.head es) ≤ history_limit = limit-holds script.head es sound.head.some_conns g in
    let made : (world script.head es).made ≡ length es = made-is script.head es in
    omega arith
