-- A register's names, each with its line, are places: what its calls tell is what the definitions say of the places.
use Rattle.std.proofs.Common.{Bor, nat_lt, IfNone, IfSome, ℕ, ◌≡◌, ◌<◌, ◌+◌, Bool, true, false, not, ◌&&◌, ◌||◌, List, [], ◌∷◌, length, map, filter, refl, ap, sym, subst, ◌∙◌, true≢false, arith, is_some, slice_index_or, if◌then◌else◌, Option, None, Some}
use Rattle.std.proofs.lemmas.Bool.{ltb-false}
use Rattle.iso_modes.specs.Modes.{joined, mode_eq}
use Rattle.std.proofs.lemmas.List.Sums.{length-filter}
use Rattle.std.specs.List.{AllByRecursion, IsDistinct, list_any}
use Rattle.std.specs.Map.{keys_of, lookup}
use Rattle.std.specs.Option.{option_map_or}
use Rattle.std.specs.Prelude.{count_by}
use Rattle.iso_lines.proofs.Same.{turned as turned_name}
use Rattle.iso_lines.proofs.Tests.{same_names}
use Rattle.iso_lines.specs.Locks.{counts_below}
use Rattle.iso_lines.specs.Tasks.{done_by, is_within}
use Rattle.iso_lines.specs.Weighs.{weighs}
use Rattle.iso_lines.specs.declared.lines.Change.{Change}
use Rattle.iso_locklist.specs.declared.room.Room.TheVariants.{AtCapacity, AtShare, Free}
use Rattle.iso_modes.specs.declared.Mode.{Mode}
use Rattle.iso_queue.specs.declared.types.Hold.{Hold}
use Rattle.iso_types.specs.declared.value.TableId.{TableId}
use Rattle.iso_lines.specs.Named.{Named, changed, line_of, line_under, same}
use Rattle.iso_locklist.specs.Places.{Place, all_taken, are_apart, is_grantable_in, line_at, names, nobody, place, places_in, room_by}
use Rattle.iso_locklist.proofs.Bridge.{counted_below, distinct_left, is_one, one_left, placed}
use Rattle.iso_lines.proofs.Same.{name_is}
use Rattle.iso_lines.proofs.Names.{name_same}
use Rattle.iso_locklist.proofs.Taken.{AllLines, all_lines, count_map}
use Rattle.iso_locklist.proofs.Waits.{line_here, line_past}
use Rattle.iso_queue.specs.Lines.{Line, claimed, has_edge, has_mode, hold_of, is_grantable, is_touched, is_waiter, taken_in, waiter_of}
use Rattle.iso_locklist.specs.Holding.{AreLines}
use Rattle.iso_locklist.specs.Lists.{asked_for, claimed_holds, claimed_waits}
use Rattle.iso_queue.specs.Locks as locks
use Rattle.iso_queue.specs.Queues as queues
use Rattle.iso_queue.specs.declared.types.Waiter.{Waiter}
use Rattle.iso_types.specs.Ids.{name_eq}
use Rattle.iso_types.specs.declared.value.Conn.{Conn}
use Rattle.iso_types.specs.declared.value.Name.{Name}

-- the places of an index
abbrev under : List (Option Line) → List (Name × ℕ) → List Place
under slots es = map (λ e. place e.0 (line_under slots e.1)) es

-- each name's line is that of its place
under_line : (slots : List (Option Line)) (es : List (Name × ℕ)) (n : Name) → line_at (under slots es) n ≡ option_map_or (line_under slots) (lookup (same n) es) nobody
under_line slots [] n = refl
under_line slots (e ∷ es) n = by (name_eq e.0 n) refl (under_line slots es n)
  where
    found : (b : Bool) → same n e.0 ≡ b
        → option_map_or (line_under slots) (lookup (same n) (e ∷ es)) nobody ≡ option_map_or (line_under slots) (if b then Some e.1 else lookup (same n) es) nobody
    found b f = ap (λ (a : Bool). option_map_or (line_under slots) (if a then Some e.1 else lookup (same n) es) nobody) f

    by : (b : Bool) → name_eq e.0 n ≡ b → line_at (under slots es) n ≡ option_map_or (line_under slots) (lookup (same n) es) nobody
        → line_at (under slots (e ∷ es)) n ≡ option_map_or (line_under slots) (lookup (same n) (e ∷ es)) nobody
    by true f ih =
        let back : same n e.0 ≡ true = same_names n e.0 ∙ subst (λ (m : Name). name_eq n m ≡ true) (sym (name_is e.0 n f)) (name_same n) in
        line_here (place e.0 (line_under slots e.1)) (under slots es) n f ∙ sym (found true back)
    by false f ih =
        let back : same n e.0 ≡ false = same_names n e.0 ∙ turned_name e.0 n f in
        line_past (place e.0 (line_under slots e.1)) (under slots es) n f ∙ ih ∙ sym (found false back)

pub places_line : (l : Named) (n : Name) → line_at (places_in l) n ≡ line_of l n
places_line l n = under_line l.slots l.index n

under_names : (slots : List (Option Line)) (es : List (Name × ℕ)) → names (under slots es) ≡ keys_of es
under_names slots [] = refl
under_names slots (e ∷ es) = ap (λ (l : List Name). e.0 ∷ l) (under_names slots es)

pub names_in : (l : Named) → names (places_in l) ≡ keys_of l.index
names_in l = under_names l.slots l.index

unlike_one : (n : Name) (ks : List Name) → AllByRecursion (λ y. same n y ≡ false) ks → is_one ks n ≡ false
unlike_one n [] all = refl
unlike_one n (k ∷ ks) all =
    let here : name_eq k n ≡ false = turned_name n k (sym (same_names n k) ∙ all.0) in
    ap (λ (b : Bool). b || is_one ks n) here ∙ unlike_one n ks all.1

distinct_apart : (ks : List Name) → IsDistinct same ks → are_apart ks ≡ true
unfolding IsDistinct
distinct_apart [] d = refl
distinct_apart (k ∷ ks) d = ap (λ (b : Bool). not b && are_apart ks) (unlike_one k ks d.0) ∙ distinct_apart ks d.1

-- no two places have the same name where no two keys have
pub places_apart : (l : Named) → IsDistinct same (keys_of l.index) → are_apart (names (places_in l)) ≡ true
places_apart l d = ap are_apart (under_names l.slots l.index) ∙ distinct_apart (keys_of l.index) d

-- places are those of their names
pub by_names : (ps rs : List Place) → AllLines ps rs → rs ≡ placed (line_at ps) (names rs)
by_names ps [] all = refl
by_names ps (r ∷ rs) all = λ j. place r.name (sym all.0 j) ∷ by_names ps rs all.1 j

line_nowhere : (ps : List Place) (n : Name) → is_one (names ps) n ≡ false → line_at ps n ≡ nobody
line_nowhere [] n h = refl
line_nowhere (p ∷ ps) n h = by (name_eq p.name n) refl (line_nowhere ps n)
  where
    by : (b : Bool) → name_eq p.name n ≡ b → (is_one (names ps) n ≡ false → line_at ps n ≡ nobody) → line_at (p ∷ ps) n ≡ nobody
    by true f ih = absurd (true≢false (sym (ap (λ (b : Bool). b || is_one (names ps) n) f) ∙ h))
    by false f ih = line_past p ps n f ∙ ih (sym (ap (λ (b : Bool). b || is_one (names ps) n) f) ∙ h)

-- what counts the names that pass, whatever list they are given in, counts the places
pub counted_in : (ps : List Place) → are_apart (names ps) ≡ true → (t : Name → Line → Bool) → ((n : Name) → t n nobody ≡ false) → (k : ℕ)
    → ((ns : List Name) → IsDistinct name_eq ns → ((n : Name) → list_any (name_eq n) ns ≡ t n (line_at ps n)) → k ≡ length ns) → k ≡ count_by (λ (p : Place). t p.name p.queue) ps
counted_in ps unlike t none k told =
    told (filter here (names ps)) (distinct_left here (names ps) unlike) (λ n. one_left here n (names ps) ∙ all_there n (is_one (names ps) n) refl)
    ∙ length-filter here (names ps)
    ∙ sym (count_map (λ (p : Place). t p.name p.queue) (λ n. place n (line_at ps n)) (names ps))
    ∙ ap (count_by (λ (p : Place). t p.name p.queue)) (sym (by_names ps ps (all_lines ps unlike)))
  where
    here : Name → Bool
    here n = t n (line_at ps n)

    all_there : (n : Name) (b : Bool) → is_one (names ps) n ≡ b → (b && here n) ≡ here n
    all_there n true e = refl
    all_there n false e = sym (ap (t n) (line_nowhere ps n e) ∙ none n)

-- the sum of the counts is that of the places
pub summed_in : (ps : List Place) → are_apart (names ps) ≡ true → (rows : List (List (Name × ℕ)))
    → ((c : Conn) → c.0 < 32 → (ns : List Name) → IsDistinct name_eq ns → ((n : Name) → list_any (name_eq n) ns ≡ is_touched (line_at ps n) c) → length (slice_index_or rows c.0 []) ≡ length ns)
    → counts_below rows 32 ≡ all_taken ps
unfolding all_taken
summed_in ps unlike rows each =
    counted_below ps (λ k. length (slice_index_or rows k [])) (counts_below rows) refl (λ k. refl) 32
    (λ c lt. counted_in ps unlike (λ n q. is_touched q (record { 0 = c })) (λ n. refl) (length (slice_index_or rows c [])) (each (record { 0 = c }) lt)) 32 (omega arith)

-- ---- a wait without an edge
pub grantable_some : (ps : List Place) (n : Name) (c : Conn) → is_grantable (line_at ps n) c ≡ true → is_grantable_in ps c ≡ true
grantable_some [] n c h = absurd (true≢false (sym h))
grantable_some (p ∷ ps) n c h = by (name_eq p.name n) refl (grantable_some ps n c)
  where
    or_right : (a b : Bool) → b ≡ true → (a || b) ≡ true
    or_right true b e = refl
    or_right false b e = e

    by : (b : Bool) → name_eq p.name n ≡ b → (is_grantable (line_at ps n) c ≡ true → is_grantable_in ps c ≡ true) → is_grantable_in (p ∷ ps) c ≡ true
    by true f ih = ap (λ (b : Bool). b || is_grantable_in ps c) (sym (ap (λ (q : Line). is_grantable q c) (line_here p ps n f)) ∙ h)
    by false f ih = or_right (is_grantable p.queue c) (is_grantable_in ps c) (ih (sym (ap (λ (q : Line). is_grantable q c) (line_past p ps n f)) ∙ h))

none_by : (ps rs : List Place) (c : Conn) → AllLines ps rs → ((n : Name) → is_grantable (line_at ps n) c ≡ false) → is_grantable_in rs c ≡ false
none_by ps [] c all none = refl
none_by ps (r ∷ rs) c all none =
    ap (λ (b : Bool). b || is_grantable_in rs c) (ap (λ (q : Line). is_grantable q c) (sym all.0) ∙ none r.name) ∙ none_by ps rs c all.1 none

pub grantable_none : (ps : List Place) → are_apart (names ps) ≡ true → (c : Conn) → ((n : Name) → is_grantable (line_at ps n) c ≡ false) → is_grantable_in ps c ≡ false
grantable_none ps unlike c none = none_by ps ps c (all_lines ps unlike) none

-- where no place has one, no name's line has
pub grantable_nowhere : (ps : List Place) (c : Conn) → is_grantable_in ps c ≡ false → (n : Name) → is_grantable (line_at ps n) c ≡ false
grantable_nowhere ps c h n = by (is_grantable (line_at ps n) c) refl
  where
    by : (b : Bool) → is_grantable (line_at ps n) c ≡ b → b ≡ false
    by true e = absurd (true≢false (sym (grantable_some ps n c e) ∙ h))
    by false e = refl

-- then a claim changes nothing
pub claimed_stuck : (q : Line) (c : Conn) → is_grantable q c ≡ false → claimed q c ≡ q
claimed_stuck q c h = by (waiter_of q.waiters c) h
  where
    edge : (x : Waiter) (b : Bool) → has_edge q.holders q.waiters x ≡ b → not b ≡ false → (if b then q else taken_in q c x) ≡ q
    edge x true e f = refl
    edge x false e f = absurd (true≢false f)

    by : (o : Option Waiter) → option_map_or (λ x. not (has_edge q.holders q.waiters x)) o false ≡ false → option_map_or (λ x. if has_edge q.holders q.waiters x then q else taken_in q c x) o q ≡ q
    by None f = refl
    by (Some x) f = edge x (has_edge q.holders q.waiters x) refl f

pub some_of : {X : Type 0} (o : Option X) → is_some o ≡ true → (x : X) × (o ≡ Some x)
some_of None e = absurd (true≢false (sym e))
some_of (Some x) e = (x, refl)

pub if_none : {X P Q : Type 0} (o : Option X) → (P → Q) → IfNone o P → IfNone o Q
if_none None f p = f p
if_none (Some x) f p = tt

pub if_some : {X : Type 0} {P Q : X → Type 0} (o : Option X) → ((x : X) → P x → Q x) → IfSome o P → IfSome o Q
if_some None f p = tt
if_some (Some x) f p = f x p

-- what a search for a wait without an edge tells
pub told_grantable : (l : Named) → are_apart (names (places_in l)) ≡ true → (c : Conn) (o : Option (Bor Name)) → IfSome o (λ n. is_grantable (line_of l n.now) c ≡ true)
    → IfNone o ((n : Name) → is_grantable (line_of l n) c ≡ false) → is_some o ≡ is_grantable_in (places_in l) c
told_grantable l unlike c None some none =
    sym (grantable_none (places_in l) unlike c (λ n. ap (λ (q : Line). is_grantable q c) (places_line l n) ∙ none n))
told_grantable l unlike c (Some n) some none =
    sym (grantable_some (places_in l) n.now c (ap (λ (q : Line). is_grantable q c) (places_line l n.now) ∙ some))

-- what a task does in some lines
pub done_else : (b : Bool) (change : Change) (c : Conn) (q : Line) → done_by (if b then None else Some change) c q ≡ (if b then q else changed change c q)
done_else true change c q = refl
done_else false change c q = refl

pub done_if : (b : Bool) (change : Change) (c : Conn) (q : Line) → done_by (if b then Some change else None) c q ≡ (if b then changed change c q else q)
done_if true change c q = refl
done_if false change c q = refl

-- a name that nobody holds weighs nothing
pub weighs_nobody : (ts : List TableId) (c : Conn) (t : TableId) (n : Name) → weighs ts c t n nobody ≡ false
weighs_nobody ts c t n = by (is_within ts t n)
  where
    by : (b : Bool) → (b && false) ≡ false
    by true = refl
    by false = refl

-- who holds the mode touches the line
pub mode_touched : (q : Line) (c : Conn) (m : Mode) → has_mode q.holders c m ≡ true → is_touched q c ≡ true
mode_touched q c m h = by (hold_of q.holders c) refl
  where
    by : (o : Option Hold) → hold_of q.holders c ≡ o → is_touched q c ≡ true
    by None e = absurd (true≢false (sym h ∙ ap (λ (o : Option Hold). option_map_or (λ (x : Hold). mode_eq (joined x.mode m) x.mode) o false) e))
    by (Some x) e = ap (λ (o : Option Hold). is_some o || is_waiter q.waiters c) e

-- where there is room for a name more, the total has room for it
pub room_more : (touched held : Bool) (count total share slots : ℕ) → (held ≡ true → touched ≡ true)
    → (if held then Free else room_by count total share slots (if touched then 0 else 1)) ≡ Free → touched ≡ false → total < slots
room_more true held count total share slots all free none = absurd (true≢false none)
room_more false true count total share slots all free none = absurd (true≢false (sym (all refl)))
room_more false false count total share slots all free none = by (nat_lt share (count + 1)) (nat_lt slots (total + 1)) refl free
  where
    by : (a b : Bool) → nat_lt slots (total + 1) ≡ b → (if a then AtShare else if b then AtCapacity else Free) ≡ Free → total < slots
    by true b e f = cc f
    by false true e f = cc f
    by false false e f = omega (arith, ltb-false slots (total + 1) e)

-- where the wait has an edge a claim grants nothing
pub stuck_holds : (hs : List locks.Hold) (xs : List queues.Wait) (c : Conn) → queues.is_grantable hs xs c ≡ false → claimed_holds hs xs c ≡ hs
stuck_holds hs xs c h = by (queues.wait_of xs c) h
  where
    edge : (x : queues.Wait) (b : Bool) → queues.has_edge hs xs x ≡ b → not b ≡ false → (if b then hs else locks.added hs c (asked_for x.name x.target x.term)) ≡ hs
    edge x true e f = refl
    edge x false e f = absurd (true≢false f)

    by : (o : Option queues.Wait) → option_map_or (λ x. not (queues.has_edge hs xs x)) o false ≡ false
        → option_map_or (λ x. if queues.has_edge hs xs x then hs else locks.added hs c (asked_for x.name x.target x.term)) o hs ≡ hs
    by None f = refl
    by (Some x) f = edge x (queues.has_edge hs xs x) refl f

pub stuck_waits : (hs : List locks.Hold) (xs : List queues.Wait) (c : Conn) → queues.is_grantable hs xs c ≡ false → claimed_waits hs xs c ≡ xs
stuck_waits hs xs c h = ap (λ (b : Bool). if b then queues.unqueued c xs else xs) h

-- what stands for holds and waits as places does so as lines
pub are_lines : (hs : List locks.Hold) (xs : List queues.Wait) (l : Named) (ps : List Place) → places_in l ≡ ps → AreLines hs xs (line_at ps) → AreLines hs xs (line_of l)
are_lines hs xs l ps e are = subst (λ (f : Name → Line). AreLines hs xs f) (λ j n. places_line l n j) (subst (λ (qs : List Place). AreLines hs xs (line_at qs)) (sym e) are)
