-- What each kind of step does to the counts, the history and the views.
use Rattle.std.proofs.Common.{◌≡◌, ◌≢◌, ℕ, zero, suc, ◌+◌, ◌<◌, ◌≤◌, Bool, true, false, ◌||◌, not, cond, ltb, List, [], ◌∷◌, ◌++◌, length, set, sym, refl, ap, ◌∙◌, subst, ◌⊎◌, ⊎_elim, inl, inr, arith, append_assoc, append-nil, length-append, Option, Some, None}
use Rattle.std.proofs.lemmas.Bool.{ltb-true, ltb-false}
use mathlib.Core.Logic.{dite}
use mathlib.Core.Option.{some, some-injective}
use native.Mathlib.Decide.{ℕ_discrete}
use lib.ListN.{get_elem?}
use Rattle.atomic_table.proofs.Lists.{at_set, set_here, set_else, set_again}
use Rattle.iso_history.specs.declared.entry.Entry.{Entry}
use Rattle.iso_types.specs.declared.head.Head.{Head}
use Rattle.iso_latch.specs.declared.view.View.{View}
use Rattle.iso_latch.specs.declared.view.Stage.{Stage}
use Rattle.iso_latch.specs.declared.view.Stage.TheVariants.{Idle, Waits, Inside}
use Rattle.iso_latch.specs.Seen.{has, own, Mine, Continues, without, longer}
use Rattle.iso_latch.specs.Rule.{Known, Place, home, out, weight, HasTicket, waiting, held, Apart, Stands, Fits, Placed, Kept}
use Rattle.iso_latch.specs.Told.{keeper, taker, met, spent}
use Rattle.iso_latch.proofs.Voices.{or_true, or_false, not_both, has-append, foreign, mine_known, known-append, known_right, own_all, own_full, prefixes, no_more, continues-append, continues_fewer, continues_self, own_both, has_without, length_without_one}
use Rattle.iso_latch.proofs.Views.{stay, pairs_stay, at_end, pairs_end, within, set_twice, waiting-set, held-set, waiting-end, held-end}

bool_not : (b : Bool) → (b ≡ true → ⊥) → b ≡ false
bool_not true n = absurd (n refl)
bool_not false n = refl

pub apart_turn : (v w : View) → Apart v w → Apart w v
apart_turn v w a = record {
  tickets = λ t x y. a.tickets t y x;
  voices = λ x h. bool_not (has x v.voices) (λ e. not_both h (a.voices x e));
}

abbrev ticket_at : ℕ → Stage → ℕ
ticket_at d Idle = d
ticket_at d (Waits t) = t
ticket_at d (Inside t) = t

waits_not_inside : (s t : ℕ) (st : Stage) → st ≡ Waits s → st ≡ Inside t → ⊥
waits_not_inside s t st a b = cc

idle_not_inside : (t : ℕ) (st : Stage) → st ≡ Idle → st ≡ Inside t → ⊥
idle_not_inside t st a b = cc

module _ {S : Type 0} (headf : S → Head) (history : S → List Entry) (seats : ℕ) (h : Head) where
  abbrev K : ℕ → ℕ → List Entry → Place S → List View → Type 0
  K = Kept headf history seats h

  abbrev F : ℕ → ℕ → List Entry → Place S → ℕ → View → Type 0
  F = Fits seats h

  abbrev At : List View → ℕ → View → Type 0
  At l j v = get_elem? l j ≡ some v

  -- one view changes
  pub moves : (d s : ℕ) (log : List Entry) (p : Place S) (views : List View) (k : K d s log p views) (id : ℕ) (v w : View) → At views id v
      → (d' s' : ℕ) (log' : List Entry) (p' : Place S) → s' + (waiting views + weight w.stage) ≡ d' + weight v.stage → held views + length w.voices ≤ seats + length v.voices
      → F d' s' log' p' id w
      → ((j : ℕ) (u : View) → j ≢ id → At views j u → F d s log p j u → Apart v u → F d' s' log' p' j u)
      → ((j : ℕ) (u : View) → j ≢ id → At views j u → F d s log p j u → Apart v u → Apart w u)
      → Placed headf history seats h log' (set views id w) p' → Known seats log' → K d' s' log' p' (set views id w)
  moves d s log p views k id v w at d' s' log' p' queue few mine others apart placed known = let a = waiting-set views id v w at in let b = held-set views id v w at in record {
    queue = omega arith;
    few = omega arith;
    each = stay (F d' s' log' p') views id w mine (λ j u other e. others j u other e (k.each j u e) (k.apart id j v u (λ z. other (sym z)) at e));
    apart = pairs_stay Apart apart_turn views id w (λ j u other e. apart j u other e (k.each j u e) (k.apart id j v u (λ z. other (sym z)) at e)) k.apart;
    placed = placed;
    known = known;
  }

  -- where the value is out with another, it stays so
  still : (log log' : List Entry) (views : List View) (id : ℕ) (v w : View) (p : Place S) → At views id v → ((t : ℕ) → v.stage ≡ Inside t → ⊥) → log ≡ log' → Placed headf history seats h log views p → Placed headf history seats h log' (set views id w) p
  still log log' views id v w (home x) at not same q = (q.0, q.1 ∙ same)
  still log log' views id v w (out j) at not same q = let other : j ≢ id = λ e. not q.1 (ap (λ (z : View). z.stage) (some-injective v q.0 (sym at ∙ (ap (get_elem? views) (sym e) ∙ q.2))) ∙ q.3) in
      (q.0, q.1, set_else views id j w other ∙ q.2, q.3)

  later : (d s : ℕ) (log : List Entry) (p : Place S) (j : ℕ) (u : View) (st : Stage) → Stands {S = S} seats h d s log p j u st → Stands {S = S} seats h (d + 1) s log p j u st
  later d s log p j u Idle x = tt
  later d s log p j u (Waits t) x = let l = x.1 in (x.0, omega arith, x.2)
  later d s log p j u (Inside t) x = let l = x.1 in (x.0, omega arith, x.2, x.3, x.4)

  new_ticket : (d s : ℕ) (log : List Entry) (p : Place S) (j : ℕ) (u : View) (st : Stage) (t : ℕ) → t ≡ d → HasTicket t st → Stands {S = S} seats h d s log p j u st → ⊥
  new_ticket d s log p j u Idle t is x y = x
  new_ticket d s log p j u (Waits a) t is x y = let l = y.1 in omega arith
  new_ticket d s log p j u (Inside a) t is x y = let l = y.1 in omega arith

  -- a ticket is drawn
  pub draws : (d s : ℕ) (log : List Entry) (p : Place S) (views : List View) (k : K d s log p views) (id : ℕ) (v : View) → At views id v → v.stage ≡ Idle → 0 < length v.voices
      → K (d + 1) s log p (set views id (record v { stage = Waits d }))
  draws d s log p views k id v at idle some_voice = let w : View = record v { stage = Waits d } in let mine = k.each id v at in let q = k.queue in let f = k.few in let z : weight v.stage ≡ 0 = ap weight idle in
      moves d s log p views k id v w at (d + 1) s log p (omega arith) (omega arith)
      record { head = mine.head; seated = mine.seated; begins = mine.begins; notes = mine.notes; stands = (omega arith, omega arith, some_voice) }
      (λ j u other e fits apart. record { head = fits.head; seated = fits.seated; begins = fits.begins; notes = fits.notes; stands = later d s log p j u u.stage fits.stands })
      (λ j u other e fits apart. record { tickets = λ t is theirs. new_ticket d s log p j u u.stage t is theirs fits.stands; voices = apart.voices })
      (still log log views id v w p at (λ t. idle_not_inside t v.stage idle) refl k.placed) k.known

  stands_at : (d s : ℕ) (log : List Entry) (p : Place S) (j : ℕ) (v : View) (st : Stage) → v.stage ≡ st → Stands {S = S} seats h d s log p j v v.stage → Stands {S = S} seats h d s log p j v st
  stands_at d s log p j v st is x = subst (Stands {S = S} seats h d s log p j v) is x

  -- while the value is at home no view has its turn
  outside : (d s : ℕ) (log : List Entry) (x : S) (q : Place S) (j : ℕ) (u : View) (st : Stage) → Stands {S = S} seats h d s log (home x) j u st → Stands {S = S} seats h d s log q j u st
  outside d s log x q j u Idle y = tt
  outside d s log x q j u (Waits t) y = y
  outside d s log x q j u (Inside t) y = absurd (let e : home x ≡ out j = y.3 in cc)

  -- the value is taken by the view whose ticket is served
  pub takes_turn : (d s : ℕ) (log : List Entry) (x : S) (views : List View) (k : K d s log (home x) views) (id : ℕ) (v : View) → At views id v → v.stage ≡ Waits s
      → K d s log (out id) (set views id (record v { stage = Inside s; seen = log; parts = [] }))
  takes_turn d s log x views k id v at waits = let w : View = record v { stage = Inside s; seen = log; parts = [] } in let mine = k.each id v at in let q = k.queue in let f = k.few in let z : weight v.stage ≡ 1 = ap weight waits in
      let st = stands_at d s log (home x) id v (Waits s) waits mine.stands in
      moves d s log (home x) views k id v w at d s log (out id) (omega arith) (omega arith)
      record { head = mine.head; seated = mine.seated; begins = continues_self v.voices log; notes = tt; stands = (refl, st.1, st.2, refl, refl) }
      (λ j u other e fits apart. record { head = fits.head; seated = fits.seated; begins = fits.begins; notes = fits.notes; stands = outside d s log x (out id) j u u.stage fits.stands })
      (λ j u other e fits apart. record { tickets = λ t is theirs. apart.tickets t (subst (HasTicket t) (sym waits) is) theirs; voices = apart.voices })
      (w, s, set_here views id w (within views id v at), refl) k.known

  -- the value is at home: who waits for the served ticket finds it there
  pub at_home : (d s : ℕ) (log : List Entry) (p : Place S) (views : List View) (k : K d s log p views) (id : ℕ) (v : View) → At views id v → v.stage ≡ Waits s
      → (x : S) × (p ≡ home x) × (headf x ≡ h) × (history x ≡ log)
  at_home d s log (home x) views k id v at waits = (x, refl, k.placed.0, k.placed.1)
  at_home d s log (out j) views k id v at waits = let q = k.placed in let u : View = q.0 in let st = stands_at d s log (out j) j u (Inside q.1) q.3 (k.each j u q.2).stands in absurd (dite (ℕ_discrete id j)
      (λ e. waits_not_inside s q.1 v.stage waits (ap (λ (z : View). z.stage) (some-injective v u (sym at ∙ (ap (get_elem? views) e ∙ q.2))) ∙ q.3))
      (λ ne. (k.apart id j v u ne at q.2).tickets s (subst (HasTicket s) (sym waits) refl) (subst (HasTicket s) (sym q.3) (sym st.0))))

  abbrev out_or : Place S → ℕ
  out_or (home x) = 0
  out_or (out i) = i

  -- only one view has its turn
  alone : (d s : ℕ) (log : List Entry) (id j : ℕ) (u : View) (d' s' : ℕ) (log' : List Entry) (q : Place S) → j ≢ id → (st : Stage) → Stands {S = S} seats h d s log (out id) j u st
      → (s' ≡ s) × (d' ≡ d) → Stands {S = S} seats h d' s' log' q j u st
  alone d s log id j u d' s' log' q other Idle y e = tt
  alone d s log id j u d' s' log' q other (Waits t) y e = let a = e.0 in let b = e.1 in let c = y.0 in let g = y.1 in (omega arith, omega arith, y.2)
  alone d s log id j u d' s' log' q other (Inside t) y e = absurd (other (sym (let e' : out id ≡ out j = y.3 in ap out_or e')))

  -- the history grows by entries of the view that has its turn
  pub grows : (d s : ℕ) (log : List Entry) (p : Place S) (views : List View) (k : K d s log p views) (id : ℕ) (v : View) (t : ℕ) (new : List Entry) → At views id v → v.stage ≡ Inside t → Mine v.voices new
      → K d s (log ++ new) p (set views id (record v { seen = log ++ new; parts = [] }))
  grows d s log p views k id v t new at inside own_new = let w : View = record v { seen = log ++ new; parts = [] } in let mine = k.each id v at in let q = k.queue in let f = k.few in
      let st = stands_at d s log p id v (Inside t) inside mine.stands in let p_is : p ≡ out id = st.3 in
      moves d s log p views k id v w at d s (log ++ new) p (omega arith) (omega arith)
      record { head = mine.head; seated = mine.seated; begins = continues_self v.voices (log ++ new); notes = tt; stands = subst (Stands {S = S} seats h d s (log ++ new) p id w) (sym inside) (st.0, st.1, st.2, st.3, refl) }
      (λ j u other e fits apart. record {
        head = fits.head;
        seated = fits.seated;
        begins = continues-append u.voices u.seen log new fits.begins (foreign v.voices u.voices apart.voices new own_new);
        notes = fits.notes;
        stands = alone d s log id j u d s (log ++ new) p other u.stage (subst (λ (z : Place S). Stands {S = S} seats h d s log z j u u.stage) p_is fits.stands) (refl, refl);
      })
      (λ j u other e fits apart. record { tickets = apart.tickets; voices = apart.voices })
      (subst (Placed headf history seats h (log ++ new) (set views id w)) (sym p_is) (w, t, set_here views id w (within views id v at), inside))
      (known-append seats log new k.known (mine_known seats v.voices mine.seated new own_new))

  -- the tickets of the others come after the one that was served
  next_ticket : (d s : ℕ) (log : List Entry) (id j : ℕ) (u : View) (q : Place S) → j ≢ id → (st : Stage) → (HasTicket s st → ⊥) → Stands {S = S} seats h d s log (out id) j u st → Stands {S = S} seats h d (s + 1) log q j u st
  next_ticket d s log id j u q other Idle miss y = tt
  next_ticket d s log id j u q other (Waits t) miss y = let a = y.0 in let b = y.1 in (let n : s ≢ t = miss in omega arith, b, y.2)
  next_ticket d s log id j u q other (Inside t) miss y = absurd (miss (sym y.0))

  -- the value is given back, and the next ticket served
  pub gives_back : (d s : ℕ) (log : List Entry) (p : Place S) (x : S) (views : List View) (k : K d s log p views) (id : ℕ) (v : View) (t : ℕ) → At views id v → v.stage ≡ Inside t → headf x ≡ h → history x ≡ log
      → K d (s + 1) log (home x) (set views id (record v { stage = Idle }))
  gives_back d s log p x views k id v t at inside hd hist = let w : View = record v { stage = Idle } in let mine = k.each id v at in let q = k.queue in let f = k.few in let z : weight v.stage ≡ 1 = ap weight inside in
      let st = stands_at d s log p id v (Inside t) inside mine.stands in let p_is : p ≡ out id = st.3 in let served_is : t ≡ s = st.0 in
      moves d s log p views k id v w at d (s + 1) log (home x) (omega arith) (omega arith)
      record { head = mine.head; seated = mine.seated; begins = mine.begins; notes = mine.notes; stands = tt }
      (λ j u other e fits apart. record {
        head = fits.head;
        seated = fits.seated;
        begins = fits.begins;
        notes = fits.notes;
        stands = next_ticket d s log id j u (home x) other u.stage (λ theirs. apart.tickets s (subst (HasTicket s) (sym inside) (sym served_is)) theirs) (subst (λ (y : Place S). Stands {S = S} seats h d s log y j u u.stage) p_is fits.stands);
      })
      (λ j u other e fits apart. record { tickets = λ t' is theirs. is; voices = apart.voices })
      (hd, hist) k.known

  -- a new view comes, with no ticket
  pub comes : (d s : ℕ) (log : List Entry) (p : Place S) (views : List View) (k : K d s log p views) (w : View) → w.stage ≡ Idle → held views + length w.voices ≤ seats → F d s log p (length views) w
      → ((j : ℕ) (u : View) → At views j u → (x : ℕ) → has x w.voices ≡ true → has x u.voices ≡ false) → K d s log p (views ++ w ∷ [])
  comes d s log p views k w idle room mine apart = let q = k.queue in let z : weight w.stage ≡ 0 = ap weight idle in record {
    queue = omega (arith, waiting-end views w);
    few = omega (arith, held-end views w);
    each = λ j u e. ⊎_elim (λ old. k.each j u old) (λ new. subst (λ (y : ℕ × View). F d s log p y.0 y.1) (λ i. (sym new.0 i, new.1 i)) mine) (at_end views w u j e);
    apart = pairs_end Apart apart_turn views w (λ j u e. record { tickets = λ t is theirs. subst (HasTicket t) idle is; voices = apart j u e }) k.apart;
    placed = arrived p k.placed;
    known = k.known;
  } where
    longer_still : (l : List View) (j : ℕ) (v : View) → At l j v → At (l ++ w ∷ []) j v
    longer_still l j v e = Rattle.atomic_table.proofs.Lists.at_longer l (w ∷ []) j v e

    arrived : (q : Place S) → Placed headf history seats h log views q → Placed headf history seats h log (views ++ w ∷ []) q
    arrived (home x) y = y
    arrived (out j) y = (y.0, y.1, longer_still views j y.0 y.2, y.3)

  only : (x y : ℕ) → has y (x ∷ []) ≡ true → y ≡ x
  only x y e = dite (ℕ_discrete y x) (λ is. is) (λ no. absurd (not_both e (or_false _ _ (Rattle.std.proofs.Common.ne_eqb y x no) refl)))

  -- a view is cut in two: one voice goes
  pub splits : (d s : ℕ) (log : List Entry) (p : Place S) (views : List View) (k : K d s log p views) (id : ℕ) (v : View) (x : ℕ) → At views id v → v.stage ≡ Idle → has x v.voices ≡ true
      → K d s log p (set views id (keeper x v) ++ taker x v ∷ [])
  splits d s log p views k id v x at idle has_x = let w : View = keeper x v in let u : View = taker x v in let mine = k.each id v at in let q = k.queue in let f = k.few in let one = length_without_one x v.voices has_x in let b = held-set views id v w at in
      let some_voice : 0 < length v.voices = omega arith in
      let fewer : (y : ℕ) → has y (without x v.voices) ≡ true → has y v.voices ≡ true = λ y e. (has_without x y v.voices e).0 in
      let single : (y : ℕ) → has y (x ∷ []) ≡ true → has y v.voices ≡ true = λ y e. ap (λ z. has z v.voices) (only x y e) ∙ has_x in
      let first = moves d s log p views k id v w at d s log p (omega arith) (omega arith)
      record { head = λ _. mine.head some_voice; seated = λ y e. mine.seated y (fewer y e); begins = continues_fewer v.voices (without x v.voices) v.seen log fewer mine.begins; notes = tt; stands = subst (Stands {S = S} seats h d s log p id w) (sym idle) tt }
      (λ j u other e fits apart. fits)
      (λ j u other e fits apart. record { tickets = apart.tickets; voices = λ y e. apart.voices y (fewer y e) })
      (still log log views id v w p at (λ t. idle_not_inside t v.stage idle) refl k.placed) k.known in
      comes d s log p (set views id w) first u refl (omega arith)
      record { head = λ _. mine.head some_voice; seated = λ y e. mine.seated y (single y e); begins = continues_fewer v.voices (x ∷ []) v.seen log single mine.begins; notes = tt; stands = tt }
      (stay (λ (j : ℕ) (z : View). (y : ℕ) → has y (x ∷ []) ≡ true → has y z.voices ≡ false) views id w
      (λ y e. bool_not (has y (without x v.voices)) (λ z. (has_without x y v.voices z).1 (only x y e)))
      (λ j z other e y is. (k.apart id j v z (λ t. other (sym t)) at e).voices y (single y is)))

  shorter_first : (a : List ℕ) (x y log : List Entry) (c : Continues a x log) (rest : List Entry) → log ≡ y ++ rest → length x ≤ length y → (own a rest ≡ []) × Continues a x y
  shorter_first a x y log c rest e le = let r = prefixes x c.0 y rest (sym c.1 ∙ e) le in let t = no_more a r.0 rest (sym (ap (own a) r.2) ∙ c.2) in (t.1, (r.0, r.1, t.0))

  -- both beginnings go on to the longer one, and the history goes on from it
  meeting : (a b : List ℕ) (x y log : List Entry) → Continues a x log → Continues b y log → Continues (a ++ b) (longer x y) log × Continues a x (longer x y) × Continues b y (longer x y)
  meeting a b x y log c e = pick (ltb (length x) (length y)) (λ t. let l = ltb-true (length x) (length y) t in omega arith) (λ t. ltb-false (length x) (length y) t) where
    pick : (t : Bool) → (t ≡ true → length x ≤ length y) → (t ≡ false → length y ≤ length x) → Continues (a ++ b) (cond t y x) log × Continues a x (cond t y x) × Continues b y (cond t y x)
    pick true up down = let r = shorter_first a x y log c e.0 e.1 (up refl) in ((e.0, e.1, own_both a b e.0 r.0 e.2), r.1, continues_self b y)
    pick false up down = let r = shorter_first b y x log e c.0 c.1 (down refl) in ((c.0, c.1, own_both a b c.0 c.2 r.0), continues_self a x, r.1)

  -- one view takes in another, which is spent
  pub joins : (d s : ℕ) (log : List Entry) (p : Place S) (views : List View) (k : K d s log p views) (id : ℕ) (v : View) (other : ℕ) (w : View) → At views id v → v.stage ≡ Idle → 0 < length v.voices
      → other ≢ id → At views other w → w.stage ≡ Idle → K d s log p (set (set views id (met v w)) other spent)
  joins d s log p views k id v other w at idle some_voice ne there idle' = let m : View = met v w in let mine = k.each id v at in let theirs = k.each other w there in let q = k.queue in let f = k.few in let b = held-set views other w spent there in
      let z : weight w.stage ≡ 0 = ap weight idle' in let z' : weight v.stage ≡ 0 = ap weight idle in let meet = meeting v.voices w.voices v.seen w.seen log mine.begins theirs.begins in let fits_in = length-append v.voices w.voices in
      let first = moves d s log p views k other w spent there d s log p (omega arith) (omega arith)
      record { head = λ l. absurd (omega arith); seated = λ y e. absurd (not_both e refl); begins = (log, refl, nothing log); notes = tt; stands = tt }
      (λ j u _ e fits apart. fits) (λ j u _ e fits apart. record { tickets = λ t is _. is; voices = λ y e. absurd (not_both e refl) })
      (still log log views other w spent p there (λ t. idle_not_inside t w.stage idle') refl k.placed) k.known in
      let at' = set_else views other id spent (λ e. ne (sym e)) ∙ at in
      subst (K d s log p) (set_twice views other id spent m ne)
      (moves d s log p (set views other spent) first id v m at' d s log p (let q' = first.queue in omega arith) (omega arith)
      record {
        head = λ _. mine.head some_voice;
        seated = λ y e. ⊎_elim (mine.seated y) (theirs.seated y) (or_true _ _ (sym (has-append y v.voices w.voices) ∙ e));
        begins = meet.0;
        notes = (meet.1, (meet.2, tt));
        stands = subst (Stands {S = S} seats h d s log p id m) (sym idle) tt;
      }
      (λ j u _ e fits apart. fits)
      (λ j u far e fits apart. record {
        tickets = apart.tickets;
        voices = λ y is. ⊎_elim (apart.voices y)
            (stay (λ (i : ℕ) (t : View). i ≢ id → has y w.voices ≡ true → has y t.voices ≡ false) views other spent (λ _ _. refl) (λ i t away here _ has_y. (k.apart other i w t (λ o. away (sym o)) there here).voices y has_y) j u e far)
            (or_true _ _ (sym (has-append y v.voices w.voices) ∙ is));
      })
      (still log log (set views other spent) id v m p at' (λ t. idle_not_inside t v.stage idle) refl first.placed) k.known) where
        nothing : (es : List Entry) → own [] es ≡ []
        nothing [] = refl
        nothing (e ∷ es) = nothing es

  -- who has all voices finds the value at home, with the history that it has seen
  pub closes : (d s : ℕ) (log : List Entry) (p : Place S) (views : List View) (k : K d s log p views) (id : ℕ) (v : View) → At views id v → v.stage ≡ Idle → ((x : ℕ) → x < seats → has x v.voices ≡ true)
      → (x : S) × (p ≡ home x) × (headf x ≡ h) × (history x ≡ v.seen) × (own v.voices v.seen ≡ v.seen)
  closes d s log (home x) views k id v at idle full = let mine = k.each id v at in let c = mine.begins in let none_left = own_all seats v.voices full c.0 (known_right seats v.seen c.0 (subst (Known seats) c.1 k.known)) c.2 in
      let all : log ≡ v.seen = c.1 ∙ (ap (λ l. v.seen ++ l) none_left ∙ append-nil v.seen) in
      (x, refl, k.placed.0, k.placed.1 ∙ all, own_full seats v.voices full v.seen (subst (Known seats) all k.known))
  closes d s log (out j) views k id v at idle full = let q = k.placed in let u : View = q.0 in let their = k.each j u q.2 in let st = stands_at d s log (out j) j u (Inside q.1) q.3 their.stands in absurd (dite (ℕ_discrete id j)
      (λ e. idle_not_inside q.1 v.stage idle (ap (λ (z : View). z.stage) (some-injective v u (sym at ∙ (ap (get_elem? views) e ∙ q.2))) ∙ q.3))
      (λ ne. voice_of u.voices st.2 (λ x is. not_both is ((k.apart id j v u ne at q.2).voices x (full x (their.seated x is)))))) where
        voice_of : (vs : List ℕ) → 0 < length vs → ((x : ℕ) → has x vs ≡ true → ⊥) → ⊥
        voice_of [] l n = omega arith
        voice_of (x ∷ vs) l n = n x (ap (λ b. b || has x vs) (Rattle.std.proofs.Common.eq-eqb x x refl))
