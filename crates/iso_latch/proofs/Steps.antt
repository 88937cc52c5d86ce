-- Each step of the latch keeps its rule.
use Rattle.std.proofs.Common.{◌≡◌, ◌≢◌, ℕ, zero, suc, ◌+◌, ◌%◌, ◌^◌, ◌<◌, ◌≤◌, true, List, [], ◌∷◌, ◌++◌, length, get_or, set, sym, refl, ap, ◌∙◌, subst, arith, length-append, Option, Some, unwrap_or}
use mathlib.Core.Logic.{dite}
use mathlib.Core.Option.{none, some, some-injective, some-ne-none}
use native.Mathlib.Decide.{ℕ_discrete}
use lib.ListN.{get_elem?}
use lib.Seq.{set-get_or}
use Rattle.atomic_table.specs.Table.{State, Me, step, keeps, takes, gives, stepped, rest, put_back, Allows, Splits, Joins, opening, Final, Seen}
use Rattle.atomic_table.proofs.Lists.{set_again, set_else, one_turn}
use Rattle.iso_history.specs.declared.entry.Entry.{Entry}
use Rattle.iso_types.specs.declared.head.Head.{Head}
use Rattle.iso_latch.specs.declared.view.View.{View}
use Rattle.iso_latch.specs.declared.view.Stage.{Stage}
use Rattle.iso_latch.specs.declared.view.Stage.TheVariants.{Idle, Waits, Inside}
use Rattle.iso_latch.specs.Seen.{has, own, Mine, Continues}
use Rattle.iso_latch.specs.Rule.{Place, home, out, slot_of, weight, waiting, held, Fits, Kept, Rule, modulo, opening_view, Stands, Apart}
use Rattle.iso_latch.specs.Told.{keeper, taker, met, spent, ticket_of, drew, looked, grew, served_next, noted, stood, is_inside}
use Rattle.iso_latch.proofs.Voices.{has_below, length-below, not_both}
use Rattle.iso_latch.proofs.Events.{draws, takes_turn, at_home, grows, gives_back, splits, joins, closes}

pub some_is : {A : Type 0} (a b : A) → Some a ≡ Some b → a ≡ b
some_is {A} a b e = ap (λ (o : Option A). unwrap_or o a) e

wrap_more : (a k : ℕ) → (a % 18446744073709551616 + k) % 18446744073709551616 ≡ (a + k) % 18446744073709551616
wrap_more a k = omega arith

module _ {S : Type 0} (headf : S → Head) (history : S → List Entry) (seats : ℕ) (h : Head) where
  abbrev M : Type 0
  M = Me (Option S) View

  abbrev St : Type 0
  St = State (Option S) View

  abbrev R : St → Type 0
  R = Rule headf history seats h

  -- a load by a seat whose view stays
  same : (s : St) (r : R s) (i id : ℕ) (me : M) → get_elem? s.views id ≡ some me.0 → R (stepped s i (get_or s.words i 0) id me.1 me.0 keeps)
  same s r i id me at = subst (λ (z : List ℕ × List View). R (record { words = z.0; homes = s.homes; views = z.1 })) (λ k. (sym (set-get_or s.words i 0) k, sym (set_again s.views id me.0 at) k)) r

  pub draw_allowed : (slots id : ℕ) (me : M) → me.0.stage ≡ Idle → 0 < length me.0.voices → Allows R slots id me 0 (λ n. (n + 1) % 2 ^ 64) (drew (step slots 0 1 0 none) me)
  draw_allowed slots id me idle some_voice s r deep at fits = (
    record me.0 { stage = Waits r.drawn },
    keeps,
    tt,
    record {
      drawn = r.drawn + 1;
      served = r.served;
      log = r.log;
      place = r.place;
      door = r.door;
      small = r.small;
      words_are = ap (λ (ws : List ℕ). set ws 0 ((get_or ws 0 0 + 1) % 18446744073709551616)) r.words_are ∙ ap (λ (n : ℕ). n ∷ modulo r.served ∷ modulo (length r.log) ∷ r.door ∷ []) (wrap_more r.drawn 1);
      homes_are = r.homes_are;
      kept = draws headf history seats h r.drawn r.served r.log r.place s.views r.kept id me.0 at idle some_voice;
    },
    (r.drawn, sym (ap (λ (ws : List ℕ). get_or ws 0 0) r.words_are), refl),
  )

  weight_fits : (d sv : ℕ) (log : List Entry) (p : Place S) (j : ℕ) (v : View) (st : Stage) → Stands {S = S} seats h d sv log p j v st → weight st ≤ length v.voices
  weight_fits d sv log p j v Idle x = omega arith
  weight_fits d sv log p j v (Waits t) x = let l = x.2 in omega arith
  weight_fits d sv log p j v (Inside t) x = let l = x.2 in omega arith

  waiting_fits : (l : List View) → ((j : ℕ) (v : View) → get_elem? l j ≡ some v → weight v.stage ≤ length v.voices) → waiting l ≤ held l
  waiting_fits [] each = omega arith
  waiting_fits (v ∷ l) each = let a = each 0 v refl in let b = waiting_fits l (λ j u e. each (suc j) u e) in omega arith

  -- the numbers in use are less than 2^32 apart
  near : (s : St) (r : R s) → r.drawn < r.served + 18446744073709551616
  near s r = let q = r.kept.queue in let f = r.kept.few in let z = r.small in
      let w = waiting_fits s.views (λ j v e. weight_fits r.drawn r.served r.log r.place j v v.stage (r.kept.each j v e).stands) in omega arith

  pub look_allowed : (slots id : ℕ) (me : M) (t : ℕ) → me.0.stage ≡ Waits t → Allows R slots id me 1 (λ n. n) (looked headf history (step slots 1 0 0 none) me)
  look_allowed slots id me t waits s r deep at fits = let n : ℕ = get_or s.words 1 0 in let mine = r.kept.each id me.0 at in let ticket_is : ticket_of me.0.stage ≡ t = ap ticket_of waits in
      let st : (r.served ≤ t) × (t < r.drawn) × (0 < length me.0.voices) = subst (Stands {S = S} seats h r.drawn r.served r.log r.place id me.0) waits mine.stands in
      let served_is : n ≡ modulo r.served = ap (λ (ws : List ℕ). get_or ws 1 0) r.words_are in dite (ℕ_discrete n (modulo t))
      (λ hit. let gap = near s r in let a = st.0 in let b = st.1 in let turn : r.served ≡ t = one_turn r.served t 18446744073709551616 a (omega arith) (sym served_is ∙ hit) in
      let waits' : me.0.stage ≡ Waits r.served = waits ∙ ap Waits (sym turn) in let found = at_home headf history seats h r.drawn r.served r.log r.place s.views r.kept id me.0 at waits' in let x : S = found.0 in
      let homes : s.homes ≡ some (Some x) ∷ [] = r.homes_are ∙ ap (λ (p : Place S). slot_of p ∷ []) found.1 in
      let w : View = record me.0 { stage = Inside (ticket_of me.0.stage); seen = history x; parts = [] } in
      let w_is : record me.0 { stage = Inside r.served; seen = r.log; parts = [] } ≡ w = λ i. record me.0 { stage = Inside ((turn ∙ sym ticket_is) i); seen = sym found.3 i; parts = [] } in (
        w,
        takes 0 (Some x),
        ap (λ hs. get_elem? hs 0) homes,
        record {
          drawn = r.drawn;
          served = r.served;
          log = r.log;
          place = out id;
          door = r.door;
          small = r.small;
          words_are = set-get_or s.words 1 0 ∙ r.words_are;
          homes_are = ap (λ hs. set hs 0 none) homes;
          kept = subst (λ (z : View). Kept headf history seats h r.drawn r.served r.log (out id) (set s.views id z)) w_is
              (takes_turn headf history seats h r.drawn r.served r.log x s.views (subst (λ (p : Place S). Kept headf history seats h r.drawn r.served r.log p s.views) found.1 r.kept) id me.0 at waits');
        },
        ((λ _. (x, refl, mine.head st.2 ∙ ap Some (sym found.2), subst (Continues me.0.voices me.0.seen) (sym found.3) mine.begins)), λ miss. absurd (miss (hit ∙ ap modulo (sym ticket_is)))),
      ))
      (λ miss. (me.0, keeps, tt, same s r 1 id me at, ((λ hit. absurd (miss (hit ∙ ap modulo ticket_is))), λ _. refl)))

  inside_of : (st : Stage) → is_inside st ≡ true → st ≡ Inside (ticket_of st)
  inside_of Idle e = absurd (not_both e refl)
  inside_of (Waits t) e = absurd (not_both e refl)
  inside_of (Inside t) e = refl

  pub grow_allowed : (slots id : ℕ) (me : M) (x : S) (new : List Entry) (k : ℕ) → is_inside me.0.stage ≡ true → me.1 ≡ (0, Some x) ∷ [] → history x ≡ me.0.seen ++ new → Mine me.0.voices new → length new ≡ k
      → Allows R slots id me 2 (λ n. (n + k) % 2 ^ 64) (grew history (step slots 2 k 0 none) me)
  grow_allowed slots id me x new k inside carried hist own_new long s r deep at fits = let is = inside_of me.0.stage inside in let mine = r.kept.each id me.0 at in
      let st = subst (Stands {S = S} seats h r.drawn r.served r.log r.place id me.0) is mine.stands in let log_is : r.log ++ new ≡ history x = ap (λ l. l ++ new) (sym st.4) ∙ sym hist in
      let longer_by : length r.log + k ≡ length (r.log ++ new) = omega (arith, length-append r.log new) in (
        record me.0 { seen = history x; parts = [] },
        keeps,
        tt,
        record {
          drawn = r.drawn;
          served = r.served;
          log = r.log ++ new;
          place = r.place;
          door = r.door;
          small = r.small;
          words_are = ap (λ (ws : List ℕ). set ws 2 ((get_or ws 2 0 + k) % 18446744073709551616)) r.words_are ∙ ap (λ (n : ℕ). modulo r.drawn ∷ modulo r.served ∷ n ∷ r.door ∷ []) (wrap_more (length r.log) k ∙ ap modulo longer_by);
          homes_are = r.homes_are;
          kept = subst (λ (l : List Entry). Kept headf history seats h r.drawn r.served (r.log ++ new) r.place (set s.views id (record me.0 { seen = l; parts = [] }))) log_is
              (grows headf history seats h r.drawn r.served r.log r.place s.views r.kept id me.0 (ticket_of me.0.stage) new at is own_new);
        },
        λ y is_y. ap (λ (z : S). let w : M = (record me.0 { seen = history z; parts = [] }, me.1) in w) (same_slot x y (sym carried ∙ is_y)),
      ) where
        slot_or : S → List (ℕ × Option S) → S
        slot_or d [] = d
        slot_or d (e ∷ es) = unwrap_or e.1 d

        carry : S → List (ℕ × Option S)
        carry a = (0, Some a) ∷ []

        same_slot : (a b : S) → carry a ≡ carry b → a ≡ b
        same_slot a b e = ap (slot_or a) e

  pub serve_allowed : (slots id : ℕ) (me : M) (x : S) → is_inside me.0.stage ≡ true → me.1 ≡ (0, Some x) ∷ [] → history x ≡ me.0.seen → me.0.head ≡ Some (headf x)
      → Allows R slots id me 1 (λ n. (n + 1) % 2 ^ 64) (served_next (step slots 1 1 0 none) me)
  serve_allowed slots id me x inside carried hist hd s r deep at fits = let is = inside_of me.0.stage inside in let mine = r.kept.each id me.0 at in
      let st = subst (Stands {S = S} seats h r.drawn r.served r.log r.place id me.0) is mine.stands in let homes : s.homes ≡ slot_of (out id) ∷ [] = r.homes_are ∙ ap (λ (p : Place S). slot_of p ∷ []) st.3 in (
        record me.0 { stage = Idle },
        gives,
        tt,
        record {
          drawn = r.drawn;
          served = r.served + 1;
          log = r.log;
          place = home x;
          door = r.door;
          small = r.small;
          words_are = ap (λ (ws : List ℕ). set ws 1 ((get_or ws 1 0 + 1) % 18446744073709551616)) r.words_are ∙ ap (λ (n : ℕ). modulo r.drawn ∷ n ∷ modulo (length r.log) ∷ r.door ∷ []) (wrap_more r.served 1);
          homes_are = (λ i. put_back (homes i) (carried i));
          kept = gives_back headf history seats h r.drawn r.served r.log r.place x s.views r.kept id me.0 (ticket_of me.0.stage) at is (some_is (headf x) h (sym hd ∙ mine.head st.2)) (hist ∙ st.4);
        },
        ap (λ (l : List (ℕ × Option S)). let w : M = (record me.0 { stage = Idle }, rest l) in w) carried,
      )

  -- the door may change to whatever it likes: the rule says nothing of it
  pub door_allowed : (slots id : ℕ) (me : M) (f : ℕ → ℕ) (a b : ℕ) → Allows R slots id me 3 f (stood (step slots 3 a b none) me)
  door_allowed slots id me f a b s r deep at fits = (
    me.0,
    keeps,
    tt,
    record {
      drawn = r.drawn;
      served = r.served;
      log = r.log;
      place = r.place;
      door = f (get_or s.words 3 0);
      small = r.small;
      words_are = ap (λ (ws : List ℕ). set ws 3 (f (get_or s.words 3 0))) r.words_are;
      homes_are = r.homes_are;
      kept = subst (λ (vs : List View). Kept headf history seats h r.drawn r.served r.log r.place vs) (sym (set_again s.views id me.0 at)) r.kept;
    },
    refl,
  )

  pub note_allowed : (slots id : ℕ) (me : M) → Allows R slots id me 0 (λ n. n) (noted (step slots 0 0 0 none) me)
  note_allowed slots id me s r deep at fits = (me.0, keeps, tt, same s r 0 id me at, (refl, (r.kept.each id me.0 at).notes))

  pub split_allowed : (id : ℕ) (v : View) (x : ℕ) → v.stage ≡ Idle → has x v.voices ≡ true → Splits R id v (keeper x v) (taker x v)
  split_allowed id v x idle has_x s r at = record {
    drawn = r.drawn;
    served = r.served;
    log = r.log;
    place = r.place;
    door = r.door;
    small = r.small;
    words_are = r.words_are;
    homes_are = r.homes_are;
    kept = splits headf history seats h r.drawn r.served r.log r.place s.views r.kept id v x at idle has_x;
  }

  pub join_allowed : (id : ℕ) (v : View) (other : ℕ) (w : View) → v.stage ≡ Idle → 0 < length v.voices → w.stage ≡ Idle → Joins R id v other w (met v w) spent
  join_allowed id v other w idle some_voice idle' s r at apart there = record {
    drawn = r.drawn;
    served = r.served;
    log = r.log;
    place = r.place;
    door = r.door;
    small = r.small;
    words_are = r.words_are;
    homes_are = r.homes_are;
    kept = joins headf history seats h r.drawn r.served r.log r.place s.views r.kept id v other w at idle some_voice apart (sym (set_else s.views id other (met v w) apart) ∙ there) idle';
  }

  -- the table at the start
  pub starts : (x : S) → seats < 4294967296 → headf x ≡ h → history x ≡ [] → R (opening (0 ∷ 0 ∷ 0 ∷ 0 ∷ []) (Some x ∷ []) (opening_view seats h))
  starts x small hd hist = let v : View = opening_view seats h in let long = length-below seats in record {
    drawn = 0;
    served = 0;
    log = [];
    place = home x;
    door = 0;
    small = small;
    words_are = refl;
    homes_are = refl;
    kept = record {
      queue = refl;
      few = omega arith;
      each = first;
      apart = alone;
      placed = (hd, hist);
      known = tt;
    };
  } where
    mine : (j : ℕ) → Fits {S = S} seats h 0 0 [] (home x) j (opening_view seats h)
    mine j = record { head = λ _. refl; seated = has_below seats; begins = ([], refl, refl); notes = tt; stands = tt }

    first : (j : ℕ) (v : View) → get_elem? (opening_view seats h ∷ []) j ≡ some v → Fits {S = S} seats h 0 0 [] (home x) j v
    first zero v e = subst (Fits {S = S} seats h 0 0 [] (home x) 0) (some-injective (opening_view seats h) v e) (mine 0)
    first (suc j) v e = absurd (some-ne-none v (sym e))

    alone : (i j : ℕ) (v w : View) → i ≢ j → get_elem? (opening_view seats h ∷ []) i ≡ some v → get_elem? (opening_view seats h ∷ []) j ≡ some w → Apart v w
    alone zero zero v w ne a b = absurd (ne refl)
    alone zero (suc j) v w ne a b = absurd (some-ne-none w (sym b))
    alone (suc i) j v w ne a b = absurd (some-ne-none v (sym a))

  -- the table at the end, for who has all voices
  pub ends : (id : ℕ) (v : View) (ws : List ℕ) (xs : List (Option S)) → v.stage ≡ Idle → 0 < length v.voices → ((x : ℕ) → x < seats → has x v.voices ≡ true) → Final (Seen R id v) ws xs → (x : S) × (get_elem? xs 0 ≡ some (Some x)) × (v.head ≡ Some (headf x)) × (history x ≡ v.seen) × (own v.voices v.seen ≡ history x)
  ends id v ws xs idle some_voice full f = let s : St = f.0 in let r = f.1.0 in let c = closes headf history seats h r.drawn r.served r.log r.place s.views r.kept id v f.1.1 idle full in
      (c.0, f.4 0 (Some c.0) (ap (λ hs. get_elem? hs 0) r.homes_are ∙ ap (λ p. some (slot_of p)) c.1), (r.kept.each id v f.1.1).head some_voice ∙ ap Some (sym c.2), c.3, c.4 ∙ sym c.3)
