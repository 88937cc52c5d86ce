-- A lock list that stands for holds and waits: what is seen of it, and what is done to it, by the line of each name.
use Rattle.std.proofs.Common.{◌≡◌, ◌≤◌, Bool, true, false, not, ◌&&◌, ◌||◌, List, [], ◌∷◌, map, refl, ap, sym, subst, ◌∙◌, arith}
use Rattle.std.specs.List.{list_any}
use Rattle.std.specs.Option.{option_map, option_map_or}
use Rattle.std.specs.Prelude.{count_by, filter, find, if◌then◌else◌, is_some, Option, Some}
use Rattle.iso_locklist.specs.Holding.{AreLines, AreOfHead, WaitsOnce, settled_beside}
use Rattle.iso_locklist.specs.Lists.{HoldsAlike, IsSingleIn, WaitsAlike, holds_in, named_hold, named_wait, waits_in}
use Rattle.iso_locklist.specs.Places.{all_taken, are_apart, cancelled, is_spared as spares, line_at, names, one, released, taken}
use Rattle.iso_locklist.specs.Places.{Place}
use Rattle.iso_locklist.proofs.Alike.{alike_count, swap}
use Rattle.iso_locklist.proofs.AlikeHolds.{filter_like}
use Rattle.iso_locklist.proofs.AlikeWaits.{alike_all_taken, alike_taken, own}
use Rattle.iso_locklist.proofs.Lists.{any_map, any_seek, holds_of_name, is_hold, seek, seek_map, table_like, waits_of_name}
use Rattle.iso_lines.proofs.Same.{name_is}
use Rattle.iso_lines.proofs.Names.{name_same}
use Rattle.iso_locklist.proofs.Settles.{kept}
use Rattle.iso_locklist.proofs.SettledLists.{brief_goes, briefs_settled, briefs_were}
use Rattle.iso_locklist.proofs.SingleLists.{single_in}
use Rattle.iso_locklist.proofs.Totals.{total_in_lists}
use Rattle.iso_locklist.proofs.Taken.{count_cons, taken_in_lists}
use Rattle.iso_modes.specs.Modes.{mode_eq}
use Rattle.iso_modes.specs.Terms.{is_brief, is_fresh}
use Rattle.iso_modes.specs.declared.Mode.TheVariants.{Nw, S}
use Rattle.iso_modes.specs.declared.Term.TheVariants.{Kept}
use Rattle.iso_queue.specs.Limits as limits
use Rattle.iso_queue.specs.Lines as lines
use Rattle.iso_queue.specs.Lines.{Line, hold_of, is_guarded_against}
use Rattle.iso_queue.specs.Locks as locks
use Rattle.iso_queue.specs.Locks.{Hold, collapsed, dropped, freed, hold_on, is_hold_of, others_guard, settled, settled_one, without_briefs}
use Rattle.iso_queue.specs.Queues.{Wait, unqueued}
use Rattle.iso_queue.specs.declared.types.Hold.{Hold as Holder}
use Rattle.iso_types.specs.Head.{is_on}
use Rattle.iso_types.specs.Ids.{conn_eq, name_eq, table_eq}
use Rattle.iso_types.specs.declared.head.IndexDef.{IndexDef}
use Rattle.iso_types.specs.declared.value.TableId.{TableId}
use Rattle.iso_lines.specs.Tasks.{is_within}
use Rattle.iso_types.specs.declared.head.Head.{Head}
use Rattle.iso_types.specs.declared.value.Conn.{Conn}
use Rattle.iso_types.specs.declared.value.Name.{Name}

-- a filter after a map
filter_map_by : {X Y : Type 0} (p : Y → Bool) (f : X → Y) (x : X) (xs : List X) (b : Bool) → p (f x) ≡ b
    → filter p (map f xs) ≡ map f (filter (λ x. p (f x)) xs) → filter p (map f (x ∷ xs)) ≡ map f (filter (λ x. p (f x)) (x ∷ xs))
filter_map_by p f x xs true e ih = rw e (ap (λ (l : List _). f x ∷ l) ih)
filter_map_by p f x xs false e ih = rw e ih

pub filter_map_on : {X Y : Type 0} (p : Y → Bool) (f : X → Y) (xs : List X) → filter p (map f xs) ≡ map f (filter (λ x. p (f x)) xs)
filter_map_on p f [] = refl
filter_map_on p f (x ∷ xs) = filter_map_by p f x xs (p (f x)) refl (filter_map_on p f xs)

map_maps : {X Y : Type 0} (f : X → X) (g : X → Y) (h : Y → Y) (xs : List X) → ((x : X) → g (f x) ≡ h (g x)) → map g (map f xs) ≡ map h (map g xs)
map_maps f g h [] same = refl
map_maps f g h (x ∷ xs) same = ap (λ (y : _). y ∷ map g (map f xs)) (same x) ∙ ap (λ (l : List _). h (g x) ∷ l) (map_maps f g h xs same)

-- none is found where none is counted
pub none_counted : {X : Type 0} (p : X → Bool) (xs : List X) → is_some (find p xs) ≡ false → count_by p xs ≡ 0
none_counted p [] e = refl
none_counted p (x ∷ xs) e = go (p x) refl (none_counted p xs)
  where
    go : (b : Bool) → p x ≡ b → (is_some (find p xs) ≡ false → count_by p xs ≡ 0) → count_by p (x ∷ xs) ≡ 0
    go true f ih =
        let first : find p (x ∷ xs) ≡ Some x = rw f refl in
        cc (sym (ap (λ (o : Option _). is_some o) first) ∙ e)
    go false f ih =
        let past : find p (x ∷ xs) ≡ find p xs = rw f refl in
        let none : one (p x) ≡ 0 = ap one f in
        omega (arith, none, count_cons p x xs, ih (sym (ap (λ (o : Option _). is_some o) past) ∙ e))

-- ---- what is seen
module _ (hs : List Hold) (xs : List Wait) (line : Name → Line) (are : AreLines hs xs line) where
  pub hold_shown : (c : Conn) (n : Name) → option_map (named_hold n) (hold_of (line n).holders c) ≡ hold_on hs c n
  hold_shown c n =
      sym (seek (is_hold_of c n) (λ h. conn_eq h.conn c) (λ h. name_eq h.name n) hs (is_hold c n)
      ∙ ap (find (λ (h : Hold). conn_eq h.conn c)) (sym (are.holds n))
      ∙ seek_map (λ (h : Hold). conn_eq h.conn c) (named_hold n) (line n).holders)

  pub guard_shown : (c : Conn) (n : Name) → is_guarded_against (line n).holders c ≡ others_guard hs c n
  guard_shown c n =
      sym (any_seek (λ (h : Hold). not (conn_eq h.conn c) && (name_eq h.name n && (mode_eq h.mode S || mode_eq h.mode Nw)))
      (λ (h : Hold). not (conn_eq h.conn c) && (mode_eq h.mode S || mode_eq h.mode Nw)) (λ (h : Hold). name_eq h.name n) hs
      (λ h. moved (not (conn_eq h.conn c)) (name_eq h.name n) (mode_eq h.mode S || mode_eq h.mode Nw))
      ∙ ap (list_any (λ (h : Hold). not (conn_eq h.conn c) && (mode_eq h.mode S || mode_eq h.mode Nw))) (sym (are.holds n))
      ∙ any_map (λ (h : Hold). not (conn_eq h.conn c) && (mode_eq h.mode S || mode_eq h.mode Nw)) (named_hold n) (line n).holders)
    where
      moved : (a b d : Bool) → (a && (b && d)) ≡ ((a && d) && b)
      moved true true true = refl
      moved true true false = refl
      moved true false true = refl
      moved true false false = refl
      moved false b d = refl

-- ---- what is done
own_hold : (n m : Name) (c : Conn) (b : Bool) → name_eq m n ≡ b → (h : Holder) → is_hold_of c n (named_hold m h) ≡ (conn_eq h.conn c && b)
own_hold n m c b e h = is_hold c n (named_hold m h) ∙ ap (λ (d : Bool). conn_eq h.conn c && d) e

all_stay : {X : Type 0} (p : X → Bool) (xs : List X) → ((x : X) → p x ≡ true) → filter p xs ≡ xs
all_stay p [] all = refl
all_stay p (x ∷ xs) all = kept p x xs (all x) ∙ ap (λ (l : List _). x ∷ l) (all_stay p xs all)

and_none : (a : Bool) → not (a && false) ≡ true
and_none true = refl
and_none false = refl

and_one : (a : Bool) → not (a && true) ≡ not a
and_one true = refl
and_one false = refl

at : Name → Hold → Bool
at n h = name_eq h.name n

module _ (hs : List Hold) (xs : List Wait) (old new : Name → Line) (are : AreLines hs xs old) (c : Conn) where
  abbrev stays : Hold → Bool
  stays h = not (conn_eq h.conn c)

  -- each hold of the connection goes
  pub lines_dropped : ((n : Name) → new n ≡ released (old n) c) → AreLines (dropped c hs) xs new
  lines_dropped done = record {
    holds = λ n. ap (λ (q : Line). map (named_hold n) q.holders) (done n)
        ∙ sym (filter_map_on stays (named_hold n) (old n).holders) ∙ ap (filter stays) (are.holds n)
        ∙ swap stays (λ h. name_eq h.name n) hs;
    waits = λ n. ap (λ (q : Line). map (named_wait n) q.waiters) (done n) ∙ are.waits n;
  }

  -- its wait goes
  pub lines_cancelled : ((n : Name) → new n ≡ cancelled (old n) c) → AreLines hs (unqueued c xs) new
  lines_cancelled done = record {
    holds = λ n. ap (λ (q : Line). map (named_hold n) q.holders) (done n) ∙ are.holds n;
    waits = λ n. ap (λ (q : Line). map (named_wait n) q.waiters) (done n)
        ∙ sym (filter_map_on (λ (x : Wait). not (conn_eq x.conn c)) (named_wait n) (old n).waiters)
        ∙ ap (filter (λ (x : Wait). not (conn_eq x.conn c))) (are.waits n)
        ∙ swap (λ (x : Wait). not (conn_eq x.conn c)) (λ x. name_eq x.name n) xs;
  }

  -- its hold on one name goes
  pub lines_freed : (n : Name) → new n ≡ released (old n) c → ((m : Name) → name_eq n m ≡ false → new m ≡ old m)
      → AreLines (freed c n hs) xs new
  lines_freed n here others = record {
    holds = λ m. by m (name_eq n m) refl ∙ ap (filter (λ h. not (is_hold_of c n h))) (are.holds m)
        ∙ swap (λ h. not (is_hold_of c n h)) (λ h. name_eq h.name m) hs;
    waits = λ m. awaited m (name_eq n m) refl ∙ are.waits m;
  }
    where
      by : (m : Name) (b : Bool) → name_eq n m ≡ b
          → map (named_hold m) (new m).holders ≡ filter (λ h. not (is_hold_of c n h)) (map (named_hold m) (old m).holders)
      by m true e =
          let same : n ≡ m = name_is n m e in
          let back : name_eq m n ≡ true = subst (λ (k : Name). name_eq m k ≡ true) (sym same) (name_same m) in
          ap (λ (q : Line). map (named_hold m) q.holders) (subst (λ (k : Name). new k ≡ released (old k) c) same here)
          ∙ ap (map (named_hold m)) (filter_like (λ (h : Holder). not (conn_eq h.conn c)) (λ h. not (is_hold_of c n (named_hold m h))) (old m).holders
          (λ h. sym (ap not (own_hold n m c true back h) ∙ and_one (conn_eq h.conn c))))
          ∙ sym (filter_map_on (λ h. not (is_hold_of c n h)) (named_hold m) (old m).holders)
      by m false e =
          ap (λ (q : Line). map (named_hold m) q.holders) (others m e)
          ∙ ap (map (named_hold m)) (sym (all_stay (λ (h : Holder). not (is_hold_of c n (named_hold m h))) (old m).holders
          (λ h. ap not (own_hold n m c false (turned e) h) ∙ and_none (conn_eq h.conn c))))
          ∙ sym (filter_map_on (λ h. not (is_hold_of c n h)) (named_hold m) (old m).holders)
        where
          turned : name_eq n m ≡ false → name_eq m n ≡ false
          turned f = go (name_eq m n) refl
            where
              go : (b : Bool) → name_eq m n ≡ b → b ≡ false
              go true g = cc (sym f ∙ subst (λ (k : Name). name_eq n k ≡ true) (sym (name_is m n g)) (name_same n))
              go false g = refl

      awaited : (m : Name) (b : Bool) → name_eq n m ≡ b → map (named_wait m) (new m).waiters ≡ map (named_wait m) (old m).waiters
      awaited m true e = ap (λ (q : Line). map (named_wait m) q.waiters) (subst (λ (k : Name). new k ≡ released (old k) c) (name_is n m e) here)
      awaited m false e = ap (λ (q : Line). map (named_wait m) q.waiters) (others m e)

  abbrev long : Hold → Bool
  long h = not (conn_eq h.conn c && is_brief h.term)

  -- its Fresh holds become Kept, but on the name that is spared, and its Brief holds go
  pub lines_settled : (spare : Option Name) → ((n : Name) → new n ≡ lines.settled (old n) c (spares spare n))
      → AreLines (without_briefs hs c (settled c spare hs)) xs new
  lines_settled spare done = record {
    holds = λ n. ap (λ (q : Line). map (named_hold n) q.holders) (done n)
        ∙ sym (filter_map_on long (named_hold n) (map (lines.settled_hold c (spares spare n)) (old n).holders))
        ∙ ap (filter long) (map_maps (lines.settled_hold c (spares spare n)) (named_hold n) (settled_one c spare) (old n).holders (λ h. one_settled n h (conn_eq h.conn c && (is_fresh h.term && not (spares spare n))) refl)
        ∙ ap (map (settled_one c spare)) (are.holds n))
        ∙ ap (filter long) (sym (filter_map_same n hs))
        ∙ swap long (λ h. name_eq h.name n) (settled c spare hs)
        ∙ ap (filter (λ h. name_eq h.name n)) (sym (brief_goes hs c (settled c spare hs) (briefs_settled hs c c spare hs (briefs_were c hs))));
    waits = λ n. ap (λ (q : Line). map (named_wait n) q.waiters) (done n) ∙ are.waits n;
  }
    where
      one_settled : (n : Name) (h : Holder) (b : Bool) → (conn_eq h.conn c && (is_fresh h.term && not (spares spare n))) ≡ b
          → named_hold n (lines.settled_hold c (spares spare n) h) ≡ settled_one c spare (named_hold n h)
      one_settled n h true e = rw e refl
      one_settled n h false e = rw e refl

      named : (h : Hold) (n : Name) (b : Bool) → name_eq (if b then record h { term = Kept } else h).name n ≡ name_eq h.name n
      named h n true = refl
      named h n false = refl

      filter_map_same : (n : Name) (gs : List Hold) → filter (λ h. name_eq h.name n) (map (settled_one c spare) gs) ≡ map (settled_one c spare) (filter (λ h. name_eq h.name n) gs)
      filter_map_same n gs = filter_map_on (λ (h : Hold). name_eq h.name n) (settled_one c spare) gs
          ∙ ap (map (settled_one c spare)) (filter_like (λ (h : Hold). name_eq (settled_one c spare h).name n) (λ h. name_eq h.name n) gs
          (λ h. named h n (conn_eq h.conn c && (is_fresh h.term && not (locks.is_spared spare h)))))

-- ---- a list of places, each name once, that stands for holds and waits
module _ (ps : List Place) (unlike : are_apart (names ps) ≡ true) (hs : List Hold) (xs : List Wait) (are : AreLines hs xs (line_at ps)) where
  pub holds_like : HoldsAlike (holds_in ps) hs
  holds_like n = holds_of_name ps n unlike ∙ are.holds n

  pub waits_like : WaitsAlike (waits_in ps) xs
  waits_like n = waits_of_name ps n unlike ∙ are.waits n

  waits_count : (c : Conn) → count_by (own c) (waits_in ps) ≡ count_by (own c) xs
  waits_count c = alike_count (λ x. x.name) (own c) (waits_in ps) xs waits_like

  one_waits : (c : Conn) → WaitsOnce xs c → count_by (own c) (waits_in ps) ≤ 1
  one_waits c once = omega (arith, waits_count c, once)

  pub single_here : (c : Conn) → IsSingleIn hs xs c → IsSingleIn (holds_in ps) (waits_in ps) c
  single_here c single = record {
    holds = λ n. omega (arith, alike_count (λ h. h.name) (is_hold_of c n) (holds_in ps) hs holds_like, single.holds n);
    waits = one_waits c single.waits;
  }

  pub taken_shown : (c : Conn) → IsSingleIn hs xs c → taken ps c ≡ limits.taken hs xs c
  taken_shown c single =
      taken_in_lists ps c unlike (single_in ps c unlike (single_here c single))
      ∙ alike_taken (holds_in ps) hs holds_like (waits_in ps) xs waits_like c (one_waits c single.waits)

  pub total_shown : (head : Head) → AreOfHead head hs xs → all_taken ps ≡ limits.all_taken head hs xs
  total_shown head of_head =
      total_in_lists head ps unlike of_head.few (λ d. single_in ps d unlike (single_here d (of_head.single d)))
      (λ d none. taken_shown d (of_head.single d) ∙ of_head.conns d none)
      ∙ alike_all_taken (holds_in ps) hs holds_like (waits_in ps) xs waits_like head (λ d. one_waits d (of_head.single d).waits)

-- ---- what is done in some lines
module _ (hs : List Hold) (xs : List Wait) (old new : Name → Line) (are : AreLines hs xs old) (c : Conn) where
  -- the holds of the connection on a table's rows and keys go
  pub lines_collapsed : (head : Head) (ts : List TableId) → ts ≡ map (λ (d : IndexDef). d.table) head.indexes → (t : TableId)
      → ((n : Name) → new n ≡ (if is_within ts t n then released (old n) c else old n))
      → AreLines (collapsed head c t hs) xs new
  lines_collapsed head ts tables t done = record {
    holds = λ n. by n (is_on head t n) refl ∙ ap (filter goes) (are.holds n) ∙ swap goes (λ h. name_eq h.name n) hs;
    waits = λ n. awaited n (is_within ts t n) (done n) ∙ are.waits n;
  }
    where
      goes : Hold → Bool
      goes h = not (conn_eq h.conn c && is_on head t h.name)

      inside : (n : Name) → is_within ts t n ≡ is_on head t n
      inside n = ap (λ (us : List TableId). is_within us t n) tables ∙ ap (λ (o : Option TableId). option_map_or (λ u. table_eq u t) o false) (table_like head n)

      by : (n : Name) (b : Bool) → is_on head t n ≡ b → map (named_hold n) (new n).holders ≡ filter goes (map (named_hold n) (old n).holders)
      by n true e =
          ap (λ (q : Line). map (named_hold n) q.holders) (done n ∙ ap (λ (b : Bool). if b then released (old n) c else old n) (inside n ∙ e))
          ∙ ap (map (named_hold n)) (filter_like (λ (h : Holder). not (conn_eq h.conn c)) (λ h. goes (named_hold n h)) (old n).holders
          (λ h. sym (ap (λ (b : Bool). not (conn_eq h.conn c && b)) e ∙ and_one (conn_eq h.conn c))))
          ∙ sym (filter_map_on goes (named_hold n) (old n).holders)
      by n false e =
          ap (λ (q : Line). map (named_hold n) q.holders) (done n ∙ ap (λ (b : Bool). if b then released (old n) c else old n) (inside n ∙ e))
          ∙ ap (map (named_hold n)) (sym (all_stay (λ (h : Holder). goes (named_hold n h)) (old n).holders
          (λ h. ap (λ (b : Bool). not (conn_eq h.conn c && b)) e ∙ and_none (conn_eq h.conn c))))
          ∙ sym (filter_map_on goes (named_hold n) (old n).holders)

      awaited : (n : Name) (b : Bool) → new n ≡ (if b then released (old n) c else old n) → map (named_wait n) (new n).waiters ≡ map (named_wait n) (old n).waiters
      awaited n true e = ap (λ (q : Line). map (named_wait n) q.waiters) e
      awaited n false e = ap (λ (q : Line). map (named_wait n) q.waiters) e

  -- its holds on all names but one are settled
  pub lines_beside : (spare : Option Name) (m : Name)
      → ((n : Name) → new n ≡ (if name_eq m n then old n else lines.settled (old n) c (spares spare n)))
      → AreLines (settled_beside c spare m hs) xs new
  lines_beside spare m done = record {
    holds = λ n. by n (name_eq m n) refl
        ∙ ap (λ (l : List Hold). filter stay (map settle l)) (are.holds n)
        ∙ ap (filter stay) (sym (settled_at n hs))
        ∙ swap stay (λ h. name_eq h.name n) (map settle hs);
    waits = λ n. awaited n (name_eq m n) (done n) ∙ are.waits n;
  }
    where
      stay : Hold → Bool
      stay h = name_eq m h.name || not (conn_eq h.conn c && is_brief h.term)

      settle : Hold → Hold
      settle h = if name_eq m h.name then h else settled_one c spare h

      awaited : (n : Name) (b : Bool) → new n ≡ (if b then old n else lines.settled (old n) c (spares spare n)) → map (named_wait n) (new n).waiters ≡ map (named_wait n) (old n).waiters
      awaited n true e = ap (λ (q : Line). map (named_wait n) q.waiters) e
      awaited n false e = ap (λ (q : Line). map (named_wait n) q.waiters) e

      one_named : (h : Hold) (n : Name) (a b : Bool) → name_eq (if a then h else if b then record h { term = Kept } else h).name n ≡ name_eq h.name n
      one_named h n true b = refl
      one_named h n false true = refl
      one_named h n false false = refl

      settled_at : (n : Name) (gs : List Hold) → filter (λ h. name_eq h.name n) (map settle gs) ≡ map settle (filter (λ h. name_eq h.name n) gs)
      settled_at n gs = filter_map_on (λ (h : Hold). name_eq h.name n) settle gs
          ∙ ap (map settle) (filter_like (λ (h : Hold). name_eq (settle h).name n) (λ h. name_eq h.name n) gs
          (λ h. one_named h n (name_eq m h.name) (conn_eq h.conn c && (is_fresh h.term && not (locks.is_spared spare h)))))

      map_none : {X : Type 0} (f : X → X) (l : List X) → ((x : X) → f x ≡ x) → map f l ≡ l
      map_none f [] same = refl
      map_none f (x ∷ l) same = rw (same x, map_none f l same) refl

      one_settled : (n : Name) (h : Holder) → name_eq m n ≡ false → (b : Bool) → (conn_eq h.conn c && (is_fresh h.term && not (spares spare n))) ≡ b
          → named_hold n (lines.settled_hold c (spares spare n) h) ≡ settle (named_hold n h)
      one_settled n h e true f = rw (e, f) refl
      one_settled n h e false f = rw (e, f) refl

      by : (n : Name) (b : Bool) → name_eq m n ≡ b → map (named_hold n) (new n).holders ≡ filter stay (map settle (map (named_hold n) (old n).holders))
      by n true e =
          ap (λ (q : Line). map (named_hold n) q.holders) (done n ∙ ap (λ (b : Bool). if b then old n else lines.settled (old n) c (spares spare n)) e)
          ∙ sym (ap (filter stay) (sym (map_maps (λ (h : Holder). h) (named_hold n) settle (old n).holders (λ h. sym (ap (λ (b : Bool). if b then named_hold n h else settled_one c spare (named_hold n h)) e)))
          ∙ ap (map (named_hold n)) (map_none (λ (h : Holder). h) (old n).holders (λ h. refl)))
          ∙ filter_map_on stay (named_hold n) (old n).holders
          ∙ ap (map (named_hold n)) (all_stay (λ (h : Holder). stay (named_hold n h)) (old n).holders (λ h. ap (λ (b : Bool). b || not (conn_eq h.conn c && is_brief h.term)) e)))
      by n false e =
          ap (λ (q : Line). map (named_hold n) q.holders) (done n ∙ ap (λ (b : Bool). if b then old n else lines.settled (old n) c (spares spare n)) e)
          ∙ ap (map (named_hold n)) (filter_like (λ (h : Holder). not (conn_eq h.conn c && is_brief h.term)) (λ h. stay (named_hold n h)) (map (lines.settled_hold c (spares spare n)) (old n).holders)
          (λ h. sym (ap (λ (b : Bool). b || not (conn_eq h.conn c && is_brief h.term)) e)))
          ∙ sym (filter_map_on stay (named_hold n) (map (lines.settled_hold c (spares spare n)) (old n).holders))
          ∙ ap (filter stay) (map_maps (lines.settled_hold c (spares spare n)) (named_hold n) settle (old n).holders
          (λ h. one_settled n h e (conn_eq h.conn c && (is_fresh h.term && not (spares spare n))) refl))
