-- To place requests and to settle the holds: in which order it is done is of no matter, where the requests are Kept.
use Rattle.std.proofs.Common.{◌≡◌, ◌≤◌, Bool, true, false, not, ◌&&◌, List, [], ◌∷◌, ◌++◌, refl, ap, sym, subst, ◌∙◌, append_assoc, arith}
use Rattle.std.specs.Option.{option_map, option_map_or}
use Rattle.std.specs.List.{AllByRecursion}
use Rattle.std.specs.Prelude.{count_by, filter, if◌then◌else◌, Option, None, Some}
use Rattle.iso_locklist.specs.Lists.{asked_for}
use Rattle.std.proofs.lemmas.Cmp.{nat_eq_equiv}
use Rattle.iso_lines.proofs.Names.{name_same}
use Rattle.iso_locklist.specs.Places.{one}
use Rattle.iso_locklist.proofs.Lists.{is_hold}
use Rattle.iso_locklist.proofs.Taken.{count_cons}
use Rattle.iso_locklist.proofs.Waits.{found_true}
use Rattle.iso_locklist.proofs.Settles.{alike_by, and_by, gone, kept, stays, stays_after, was}
use Rattle.iso_modes.specs.Modes.{joined}
use Rattle.iso_modes.specs.Terms.{is_brief, is_fresh, is_kept}
use Rattle.iso_modes.specs.declared.Mode.{Mode}
use Rattle.iso_modes.specs.declared.Term.{Term}
use Rattle.iso_modes.specs.declared.Term.TheVariants.{Kept}
use Rattle.iso_queue.specs.Locks.{Hold, Request, added, all_placed, dropped, held, hold_on, is_covered, is_covered_on, is_hold_of, is_spared, placed, raised, settled, settled_one, was_brief, without_briefs}
use Rattle.iso_types.specs.Head.{table_of}
use Rattle.iso_types.specs.Ids.{conn_eq, name_eq}
use Rattle.iso_types.specs.declared.head.Head.{Head}
use Rattle.iso_types.specs.declared.value.Conn.{Conn}
use Rattle.iso_types.specs.declared.value.Name.{Name}
use Rattle.iso_types.specs.declared.value.TableId.{TableId}

and_none : (a b : Bool) → (a && (false && b)) ≡ false
and_none true b = refl
and_none false b = refl

-- a hold settled, by whether it becomes Kept
abbrev pub settled_by : Hold → Bool → Hold
settled_by h b = if b then record h { term = Kept } else h

-- ---- to settle changes no name, no connection and no mode
settled_is : (d : Conn) (n : Name) (h : Hold) (b : Bool) → is_hold_of d n (settled_by h b) ≡ is_hold_of d n h
unfolding is_hold_of
settled_is d n h true = refl
settled_is d n h false = refl

settled_mode : (h : Hold) (b : Bool) → (settled_by h b).mode ≡ h.mode
settled_mode h true = refl
settled_mode h false = refl

module _ (c : Conn) (spare : Option Name) where
  change : Hold → Bool
  change h = conn_eq h.conn c && (is_fresh h.term && not (is_spared spare h))

  pub hold_on_settled : (hs : List Hold) (d : Conn) (n : Name) → hold_on (settled c spare hs) d n ≡ option_map (settled_one c spare) (hold_on hs d n)
  unfolding change
  hold_on_settled [] d n = refl
  hold_on_settled (h ∷ hs) d n = go (is_hold_of d n h) refl (hold_on_settled hs d n)
    where
      go : (b : Bool) → is_hold_of d n h ≡ b → hold_on (settled c spare hs) d n ≡ option_map (settled_one c spare) (hold_on hs d n)
          → hold_on (settled c spare (h ∷ hs)) d n ≡ option_map (settled_one c spare) (hold_on (h ∷ hs) d n)
      go true e ih = rw (settled_is d n h (change h) ∙ e, e) refl
      go false e ih = rw (settled_is d n h (change h) ∙ e, e) ih

  pub held_settled : (hs : List Hold) (d : Conn) (n : Name) → held (settled c spare hs) d n ≡ held hs d n
  unfolding change
  held_settled hs d n = ap (option_map (λ h. h.mode)) (hold_on_settled hs d n) ∙ go (hold_on hs d n)
    where
      go : (o : Option Hold) → option_map (λ (h : Hold). h.mode) (option_map (settled_one c spare) o) ≡ option_map (λ (h : Hold). h.mode) o
      go None = refl
      go (Some h) = ap Some (settled_mode h (change h))

  pub covered_settled : (head : Head) (hs : List Hold) (d : Conn) (n : Name) (m : Mode) → is_covered head (settled c spare hs) d n m ≡ is_covered head hs d n m
  covered_settled head hs d n m = go (table_of head n)
    where
      go : (o : Option TableId) → option_map_or (is_covered_on (settled c spare hs) d m) o false ≡ option_map_or (is_covered_on hs d m) o false
      go None = refl
      go (Some t) = rw (held_settled hs d _) refl

  -- ---- a Kept request
  raised_kept : (m : Mode) (h : Hold) (b : Bool) → raised m Kept (settled_by h b) ≡ raised m Kept h
  raised_kept m h false = refl
  raised_kept m h true = go (is_kept h.term)
    where
      of_term : Term → Hold
      of_term t = record { name = h.name; conn = h.conn; mode = joined h.mode m; term = t }

      go : (b : Bool) → of_term Kept ≡ of_term (if b then Kept else Kept)
      go true = refl
      go false = refl

  kept_settled : (h : Hold) → h.term ≡ Kept → settled_one c spare h ≡ h
  kept_settled h e =
      let none : (conn_eq h.conn c && (is_fresh h.term && not (is_spared spare h))) ≡ false =
      ap (λ (t : Term). conn_eq h.conn c && (is_fresh t && not (is_spared spare h))) e ∙ and_none (conn_eq h.conn c) (not (is_spared spare h)) in
      ap (settled_by h) none

  raised_term : (m : Mode) (h : Hold) → (raised m Kept h).term ≡ Kept
  raised_term m h = go (is_kept h.term)
    where
      go : (b : Bool) → (if b then Kept else Kept) ≡ Kept
      go true = refl
      go false = refl

  pub added_settled : (hs : List Hold) (n : Name) (m : Mode) → settled c spare (added hs c (asked_for n m Kept))
      ≡ added (settled c spare hs) c (asked_for n m Kept)
  unfolding change
  added_settled [] n m = ap (λ (h : Hold). h ∷ []) (kept_settled (record { name = n; conn = c; mode = m; term = Kept }) refl)
  added_settled (h ∷ hs) n m = go (is_hold_of c n h) refl (added_settled hs n m)
    where
      r : Request
      r = asked_for n m Kept

      go : (b : Bool) → is_hold_of c n h ≡ b → settled c spare (added hs c r) ≡ added (settled c spare hs) c r
          → settled c spare (added (h ∷ hs) c r) ≡ added (settled c spare (h ∷ hs)) c r
      go true e ih =
          rw (e, settled_is c n h (change h) ∙ e)
          (ap (λ (x : Hold). x ∷ settled c spare hs) (kept_settled (raised m Kept h) (raised_term m h) ∙ sym (raised_kept m h (change h))))
      go false e ih = rw (e, settled_is c n h (change h) ∙ e) (ap (λ (l : List Hold). settled_one c spare h ∷ l) ih)

  pub placed_settled : (head : Head) (hs : List Hold) (n : Name) (m : Mode)
      → settled c spare (placed head hs c (asked_for n m Kept)) ≡ placed head (settled c spare hs) c (asked_for n m Kept)
  placed_settled head hs n m = go (is_covered head hs c n m) refl
    where
      go : (b : Bool) → is_covered head hs c n m ≡ b → settled c spare (placed head hs c (asked_for n m Kept))
          ≡ placed head (settled c spare hs) c (asked_for n m Kept)
      go true e = rw (e, covered_settled head hs c n m ∙ e) refl
      go false e = rw (e, covered_settled head hs c n m ∙ e) (added_settled hs n m)

  pub all_placed_settled : (head : Head) (rs : List Request) (hs : List Hold) → AllByRecursion (λ r. r.term ≡ Kept) rs
      → settled c spare (all_placed head hs c rs) ≡ all_placed head (settled c spare hs) c rs
  all_placed_settled head [] hs all = refl
  all_placed_settled head (r ∷ rs) hs all =
      let same : r ≡ asked_for r.name r.mode Kept = ap (asked_for r.name r.mode) all.0 in
      all_placed_settled head rs (placed head hs c r) all.1
      ∙ ap (λ (l : List Hold). all_placed head l c rs)
      (subst (λ (q : Request). settled c spare (placed head hs c q) ≡ placed head (settled c spare hs) c q) (sym same) (placed_settled head hs r.name r.mode))

-- ---- what was Brief before
-- each Brief hold of the connection was Brief before
abbrev pub AllWereBrief : List Hold → Conn → List Hold → Type 0
AllWereBrief before c hs = AllByRecursion (λ h. conn_eq h.conn c ≡ true → is_brief h.term ≡ true → was_brief before c h.name ≡ true) hs

pub brief_goes : (before : List Hold) (c : Conn) (hs : List Hold) → AllWereBrief before c hs → without_briefs before c hs ≡ filter (stays c) hs
brief_goes before c [] all = refl
brief_goes before c (h ∷ hs) all =
    alike_by (stays_after before c) (stays c) h hs (stays c h) refl (ap not (and_by (conn_eq h.conn c) (is_brief h.term) (was_brief before c h.name) all.0))
    (brief_goes before c hs all.1)

own_briefs : (c : Conn) (pre hs : List Hold) → AllWereBrief (pre ++ hs) c hs
own_briefs c pre [] = tt
own_briefs c pre (h ∷ hs) =
    let seam : (pre ++ h ∷ []) ++ hs ≡ pre ++ h ∷ hs = rw append_assoc refl in
    (λ e f. was c pre h hs e f, subst (λ (l : List Hold). AllWereBrief l c hs) seam (own_briefs c (pre ++ h ∷ []) hs))

pub briefs_were : (c : Conn) (hs : List Hold) → AllWereBrief hs c hs
briefs_were c hs = own_briefs c [] hs

module _ (before : List Hold) (c : Conn) where
  kept_not_brief : (h : Hold) → h.term ≡ Kept → conn_eq h.conn c ≡ true → is_brief h.term ≡ true → was_brief before c h.name ≡ true
  kept_not_brief h e own brief = cc (sym brief ∙ ap is_brief e)

  pub briefs_settled : (d : Conn) (spare : Option Name) (hs : List Hold) → AllWereBrief before c hs → AllWereBrief before c (settled d spare hs)
  briefs_settled d spare [] all = tt
  briefs_settled d spare (h ∷ hs) all = (go (conn_eq h.conn d && (is_fresh h.term && not (is_spared spare h))), briefs_settled d spare hs all.1)
    where
      go : (b : Bool) → conn_eq (settled_by h b).conn c ≡ true → is_brief (settled_by h b).term ≡ true → was_brief before c (settled_by h b).name ≡ true
      go true = kept_not_brief (record h { term = Kept }) refl
      go false = all.0

  not_brief : (h : Hold) → is_brief h.term ≡ false → conn_eq h.conn c ≡ true → is_brief h.term ≡ true → was_brief before c h.name ≡ true
  not_brief h e own brief = cc (sym brief ∙ e)

  pub briefs_added : (n : Name) (m : Mode) (t : Term) (hs : List Hold) → is_brief t ≡ false → AllWereBrief before c hs
      → AllWereBrief before c (added hs c (asked_for n m t))
  briefs_added n m t [] long all = (not_brief (record { name = n; conn = c; mode = m; term = t }) long, tt)
  briefs_added n m t (h ∷ hs) long all = go (is_hold_of c n h) (briefs_added n m t hs long all.1)
    where
      raised_long : (b : Bool) → is_brief (if b then Kept else t) ≡ false
      raised_long true = refl
      raised_long false = long

      go : (b : Bool) → AllWereBrief before c (added hs c (asked_for n m t)) → AllWereBrief before c (if b then raised m t h ∷ hs else h ∷ added hs c
          (asked_for n m t))
      go true rest = (not_brief (raised m t h) (raised_long (is_kept h.term)), all.1)
      go false rest = (all.0, rest)

  briefs_placed : (head : Head) (n : Name) (m : Mode) (hs : List Hold) → AllWereBrief before c hs
      → AllWereBrief before c (placed head hs c (asked_for n m Kept))
  briefs_placed head n m hs all = go (is_covered head hs c n m)
    where
      go : (b : Bool) → AllWereBrief before c (if b then hs else added hs c (asked_for n m Kept))
      go true = all
      go false = briefs_added n m Kept hs refl all

  briefs_all_placed : (head : Head) (rs : List Request) (hs : List Hold) → AllByRecursion (λ r. r.term ≡ Kept) rs → AllWereBrief before c hs
      → AllWereBrief before c (all_placed head hs c rs)
  briefs_all_placed head [] hs terms all = all
  briefs_all_placed head (r ∷ rs) hs terms all =
      let same : r ≡ asked_for r.name r.mode Kept = ap (asked_for r.name r.mode) terms.0 in
      briefs_all_placed head rs (placed head hs c r) terms.1
      (subst (λ (q : Request). AllWereBrief before c (placed head hs c q)) (sym same) (briefs_placed head r.name r.mode hs all))

-- Kept requests may be placed first, and the holds settled then
pub placed_then_settled : (head : Head) (c : Conn) (spare : Option Name) (rs : List Request) (hs : List Hold) → AllByRecursion (λ r. r.term ≡ Kept) rs
    → without_briefs (all_placed head hs c rs) c (settled c spare (all_placed head hs c rs)) ≡ without_briefs hs c (all_placed head (settled c spare hs) c rs)
placed_then_settled head c spare rs hs terms =
    let after = all_placed head hs c rs in
    brief_goes after c (settled c spare after) (briefs_settled after c c spare after (briefs_were c after))
    ∙ sym (brief_goes hs c (settled c spare after) (briefs_settled hs c c spare after (briefs_all_placed hs c head rs hs terms (briefs_were c hs))))
    ∙ ap (without_briefs hs c) (all_placed_settled c spare head rs hs terms)

-- a connection without a Brief hold loses none
pub none_brief : (hs gs : List Hold) (c : Conn) → ((n : Name) → was_brief hs c n ≡ false) → without_briefs hs c gs ≡ gs
none_brief hs [] c none = refl
none_brief hs (h ∷ gs) c none =
    let stay : stays_after hs c h ≡ true = ap (λ (b : Bool). not (conn_eq h.conn c && (is_brief h.term && b))) (none h.name)
    ∙ nothing (conn_eq h.conn c) (is_brief h.term) in
    kept (stays_after hs c) h gs stay ∙ ap (λ (l : List Hold). h ∷ l) (none_brief hs gs c none)
  where
    nothing : (a b : Bool) → not (a && (b && false)) ≡ true
    nothing true true = refl
    nothing true false = refl
    nothing false b = refl

-- ---- a Fresh request
module _ (c : Conn) (n : Name) (m : Mode) where
  change_spared : Hold → Bool
  change_spared h = conn_eq h.conn c && (is_fresh h.term && not (name_eq h.name n))

  -- a spared hold of the name is not changed
  spared_own : (h : Hold) → is_hold_of c n h ≡ true → settled_one c (Some n) h ≡ h
  unfolding is_hold_of
  spared_own h e = go (conn_eq h.conn c) (is_fresh h.term) (name_eq h.name n) e
    where
      go : (a f b : Bool) → (a && b) ≡ true → settled_by h (a && (f && not b)) ≡ h
      go true true true e = refl
      go true true false e = cc
      go true false b e = refl
      go false f b e = cc

  raised_own : (t : Term) (h : Hold) → is_hold_of c n (raised m t h) ≡ is_hold_of c n h
  unfolding is_hold_of
  raised_own t h = refl

  new_own : (t : Term) → is_hold_of c n (record { name = n; conn = c; mode = m; term = t }) ≡ true
  unfolding is_hold_of
  new_own t = rw (nat_eq_equiv.refl c.0, name_same n) refl

  -- where the name is spared: the request is added as it is
  pub fresh_spared : (hs : List Hold) (t : Term) → settled c (Some n) (added hs c (asked_for n m t)) ≡ added (settled c (Some n) hs) c (asked_for n m t)
  unfolding change_spared
  fresh_spared [] t = ap (λ (h : Hold). h ∷ []) (spared_own (record { name = n; conn = c; mode = m; term = t }) (new_own t))
  fresh_spared (h ∷ hs) t = go (is_hold_of c n h) refl (fresh_spared hs t)
    where
      go : (b : Bool) → is_hold_of c n h ≡ b → settled c (Some n) (added hs c (asked_for n m t)) ≡ added (settled c (Some n) hs) c (asked_for n m t)
          → settled c (Some n) (added (h ∷ hs) c (asked_for n m t)) ≡ added (settled c (Some n) (h ∷ hs)) c (asked_for n m t)
      go true e ih =
          rw (e, settled_is c n h (change_spared h) ∙ e)
          (ap (λ (x : Hold). x ∷ settled c (Some n) hs) (spared_own (raised m t h) (raised_own t h ∙ e) ∙ ap (raised m t) (sym (spared_own h e))))
      go false e ih = rw (e, settled_is c n h (change_spared h) ∙ e) (ap (λ (l : List Hold). settled_one c (Some n) h ∷ l) ih)

-- no hold of the connection on the name is Fresh
abbrev pub HasNoFresh : Conn → Name → List Hold → Type 0
HasNoFresh c n hs = AllByRecursion (λ h. is_hold_of c n h ≡ true → is_fresh h.term ≡ false) hs

-- then it is of no matter whether the name is spared
spare_of_none : (c : Conn) (n : Name) (h : Hold) → (is_hold_of c n h ≡ true → is_fresh h.term ≡ false) → settled_one c None h ≡ settled_one c (Some n) h
unfolding is_hold_of
spare_of_none c n h long = go (conn_eq h.conn c) (is_fresh h.term) (name_eq h.name n) long
  where
    go : (a f b : Bool) → ((a && b) ≡ true → f ≡ false) → settled_by h (a && (f && true)) ≡ settled_by h (a && (f && not b))
    go true true true k = cc (k refl)
    go true true false k = refl
    go true false b k = refl
    go false f b k = refl

pub none_fresh : (c : Conn) (n : Name) (hs : List Hold) → HasNoFresh c n hs → settled c None hs ≡ settled c (Some n) hs
none_fresh c n [] all = refl
none_fresh c n (h ∷ hs) all =
    ap (λ (x : Hold). x ∷ settled c None hs) (spare_of_none c n h all.0) ∙ ap (λ (l : List Hold). settled_one c (Some n) h ∷ l) (none_fresh c n hs all.1)

-- so it is where its one hold on the name is not Fresh
none_more : (c : Conn) (n : Name) (hs : List Hold) → count_by (is_hold_of c n) hs ≡ 0 → HasNoFresh c n hs
none_more c n [] none = tt
none_more c n (h ∷ hs) none =
    (λ e. absurd (omega (arith, none, count_cons (is_hold_of c n) h hs, ap one e)), none_more c n hs (omega (arith, none, count_cons (is_hold_of c n) h hs)))

pub none_fresh_by : (c : Conn) (n : Name) (hs : List Hold) → count_by (is_hold_of c n) hs ≤ 1
    → option_map_or (λ h. is_fresh h.term) (hold_on hs c n) false ≡ false
    → HasNoFresh c n hs
none_fresh_by c n [] le long = tt
none_fresh_by c n (h ∷ hs) le long = go (is_hold_of c n h) refl (none_fresh_by c n hs)
  where
    go : (b : Bool) → is_hold_of c n h ≡ b
        → (count_by (is_hold_of c n) hs ≤ 1 → option_map_or (λ g. is_fresh g.term) (hold_on hs c n) false ≡ false → HasNoFresh c n hs) → HasNoFresh c n (h ∷ hs)
    go true e ih =
        let first : hold_on (h ∷ hs) c n ≡ Some h = rw e refl in (
          λ k. sym (ap (λ (o : Option Hold). option_map_or (λ g. is_fresh g.term) o false) first) ∙ long,
          none_more c n hs (omega (arith, le, count_cons (is_hold_of c n) h hs, ap one e)),
        )
    go false e ih =
        let later : hold_on (h ∷ hs) c n ≡ hold_on hs c n = rw e refl in (
          λ k. cc (sym k ∙ e),
          ih (omega (arith, le, count_cons (is_hold_of c n) h hs)) (sym (ap (λ (o : Option Hold). option_map_or (λ g. is_fresh g.term) o false) later) ∙ long),
        )

-- a request on a name that is kept: its term is of no matter
pub kept_alike : (hs : List Hold) (c : Conn) (n : Name) (m : Mode) (t : Term) → option_map_or (λ h. is_kept h.term) (hold_on hs c n) false ≡ true
    → added hs c (asked_for n m Kept) ≡ added hs c (asked_for n m t)
kept_alike [] c n m t keeps = cc keeps
kept_alike (h ∷ hs) c n m t keeps = go (is_hold_of c n h) refl (kept_alike hs c n m t)
  where
    of_term : Term → Hold
    of_term u = record { name = h.name; conn = h.conn; mode = joined h.mode m; term = u }

    by_kept : (b : Bool) → b ≡ true → of_term (if b then Kept else Kept) ≡ of_term (if b then Kept else t)
    by_kept true e = refl
    by_kept false e = cc

    go : (b : Bool) → is_hold_of c n h ≡ b
        → (option_map_or (λ g. is_kept g.term) (hold_on hs c n) false ≡ true → added hs c (asked_for n m Kept) ≡ added hs c (asked_for n m t))
        → added (h ∷ hs) c (asked_for n m Kept) ≡ added (h ∷ hs) c (asked_for n m t)
    go true e ih =
        let first : hold_on (h ∷ hs) c n ≡ Some h = rw e refl in
        rw e (ap (λ (x : Hold). x ∷ hs) (by_kept (is_kept h.term) (sym (ap (λ (o : Option Hold). option_map_or (λ g. is_kept g.term) o false) first) ∙ keeps)))
    go false e ih =
        let later : hold_on (h ∷ hs) c n ≡ hold_on hs c n = rw e refl in
        rw e (ap (λ (l : List Hold). h ∷ l) (ih (sym (ap (λ (o : Option Hold). option_map_or (λ g. is_kept g.term) o false) later) ∙ keeps)))

-- a Fresh hold is Kept once it is settled
pub fresh_is_kept : (hs : List Hold) (c : Conn) (n : Name) → option_map_or (λ h. is_fresh h.term) (hold_on hs c n) false ≡ true
    → option_map_or (λ h. is_kept h.term) (hold_on (settled c None hs) c n) false ≡ true
fresh_is_kept hs c n fresh = ap (λ (o : Option Hold). option_map_or (λ h. is_kept h.term) o false) (hold_on_settled c None hs c n)
    ∙ go (hold_on hs c n) refl fresh
  where
    by : (h : Hold) (a f : Bool) → a ≡ true → f ≡ true → is_kept (settled_by h (a && (f && true))).term ≡ true
    by h true true e k = refl
    by h true false e k = cc
    by h false f e k = cc

    go : (o : Option Hold) → hold_on hs c n ≡ o → option_map_or (λ h. is_fresh h.term) o false ≡ true
        → option_map_or (λ h. is_kept h.term) (option_map (settled_one c None) o) false ≡ true
    go None e k = cc
    go (Some h) e k = by h (conn_eq h.conn c) (is_fresh h.term) (own_of (found_true (is_hold_of c n) h hs e)) k
      where
        and_first : (a b : Bool) → (a && b) ≡ true → a ≡ true
        and_first true b e = refl
        and_first false b e = cc

        own_of : is_hold_of c n h ≡ true → conn_eq h.conn c ≡ true
        own_of is = and_first (conn_eq h.conn c) (name_eq h.name n) (sym (is_hold c n h) ∙ is)

-- ---- how to place a request whose term is not Brief, and to settle then
-- its name is spared by the entry
pub spared_then_settled : (c : Conn) (n : Name) (m : Mode) (t : Term) (hs : List Hold) → is_brief t ≡ false
    → without_briefs (added hs c (asked_for n m t)) c (settled c (Some n) (added hs c (asked_for n m t)))
    ≡ without_briefs hs c (added (settled c (Some n) hs) c (asked_for n m t))
spared_then_settled c n m t hs long =
    let after = added hs c (asked_for n m t) in
    brief_goes after c (settled c (Some n) after) (briefs_settled after c c (Some n) after (briefs_were c after))
    ∙ sym (brief_goes hs c (settled c (Some n) after) (briefs_settled hs c c (Some n) after (briefs_added hs c n m t hs long (briefs_were c hs))))
    ∙ ap (without_briefs hs c) (fresh_spared c n m hs t)

-- it is not, and the connection has no Fresh hold on it: settle with the name spared
pub added_then_settled : (c : Conn) (n : Name) (m : Mode) (t : Term) (hs : List Hold) → is_brief t ≡ false → HasNoFresh c n hs
    → without_briefs (added hs c (asked_for n m t)) c (settled c (Some n) (added hs c (asked_for n m t)))
    ≡ without_briefs hs c (added (settled c None hs) c (asked_for n m t))
added_then_settled c n m t hs long none =
    spared_then_settled c n m t hs long ∙ ap (λ (l : List Hold). without_briefs hs c (added l c (asked_for n m t))) (sym (none_fresh c n hs none))

-- it is not, and the connection has a Fresh hold on it: ask for it as Kept
pub kept_then_settled : (c : Conn) (n : Name) (m : Mode) (t : Term) (hs : List Hold) → option_map_or (λ h. is_fresh h.term) (hold_on hs c n) false ≡ true
    → without_briefs (added hs c (asked_for n m Kept)) c (settled c None (added hs c (asked_for n m Kept)))
    ≡ without_briefs hs c (added (settled c None hs) c (asked_for n m t))
kept_then_settled c n m t hs fresh =
    let after = added hs c (asked_for n m Kept) in
    brief_goes after c (settled c None after) (briefs_settled after c c None after (briefs_were c after))
    ∙ sym (brief_goes hs c (settled c None after) (briefs_settled hs c c None after (briefs_added hs c n m Kept hs refl (briefs_were c hs))))
    ∙ ap (without_briefs hs c) (added_settled c None hs n m ∙ kept_alike (settled c None hs) c n m t (fresh_is_kept hs c n fresh))

-- ---- all holds of the connection go
drop_settled_by : (c : Conn) (h : Hold) (b : Bool) → conn_eq (settled_by h b).conn c ≡ conn_eq h.conn c
drop_settled_by c h true = refl
drop_settled_by c h false = refl

drop_settled : (c : Conn) (spare : Option Name) (hs : List Hold) → dropped c (settled c spare hs) ≡ dropped c hs
drop_settled c spare [] = refl
drop_settled c spare (h ∷ hs) = go (conn_eq h.conn c) refl (drop_settled c spare hs)
  where
    keeps : conn_eq h.conn c ≡ false → settled_one c spare h ≡ h
    keeps e = ap (λ (b : Bool). settled_by h (b && (is_fresh h.term && not (is_spared spare h)))) e

    go : (b : Bool) → conn_eq h.conn c ≡ b → dropped c (settled c spare hs) ≡ dropped c hs → dropped c (settled c spare (h ∷ hs)) ≡ dropped c (h ∷ hs)
    go true e ih =
        gone (λ g. not (conn_eq g.conn c)) (settled_one c spare h) (settled c spare hs)
        (ap not (drop_settled_by c h (conn_eq h.conn c && (is_fresh h.term && not (is_spared spare h))) ∙ e))
        ∙ ih ∙ sym (gone (λ g. not (conn_eq g.conn c)) h hs (ap not e))
    go false e ih =
        ap (λ (x : Hold). dropped c (x ∷ settled c spare hs)) (keeps e)
        ∙ kept (λ g. not (conn_eq g.conn c)) h (settled c spare hs) (ap not e) ∙ ap (λ (l : List Hold). h ∷ l) ih
        ∙ sym (kept (λ g. not (conn_eq g.conn c)) h hs (ap not e))

others_stay : (before : List Hold) (c : Conn) (hs : List Hold) → without_briefs before c (dropped c hs) ≡ dropped c hs
others_stay before c [] = refl
others_stay before c (h ∷ hs) = go (conn_eq h.conn c) refl (others_stay before c hs)
  where
    go : (b : Bool) → conn_eq h.conn c ≡ b → without_briefs before c (dropped c hs) ≡ dropped c hs → without_briefs before c (dropped c (h ∷ hs))
        ≡ dropped c (h ∷ hs)
    go true e ih =
        ap (without_briefs before c) (gone (λ g. not (conn_eq g.conn c)) h hs (ap not e)) ∙ ih ∙ sym (gone (λ g. not (conn_eq g.conn c)) h hs (ap not e))
    go false e ih =
        ap (without_briefs before c) (kept (λ g. not (conn_eq g.conn c)) h hs (ap not e))
        ∙ kept (stays_after before c) h (dropped c hs) (ap (λ (b : Bool). not (b && (is_brief h.term && was_brief before c h.name))) e)
        ∙ ap (λ (l : List Hold). h ∷ l) ih ∙ sym (kept (λ g. not (conn_eq g.conn c)) h hs (ap not e))

-- whether they are settled before is of no matter
pub all_dropped : (c : Conn) (spare : Option Name) (hs : List Hold) → dropped c hs ≡ without_briefs hs c (dropped c (settled c spare hs))
all_dropped c spare hs = sym (ap (without_briefs hs c) (drop_settled c spare hs) ∙ others_stay hs c hs)
