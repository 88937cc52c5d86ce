-- The log from the oldest record of an open unit on, and its undos, stay within LOGMAX.
use Rattle.std.proofs.Common.{◌≡◌, ◌+◌, ◌-◌, ◌≤◌, ◌<◌, ◌⊎◌, inl, inr, ℕ, zero, suc, cond, eqb, Bool, true, false, not, ◌||◌, List, [], ◌∷◌, ◌++◌, length, refl, ap, sym, ◌∙◌, arith, Some, None, Option, subst}
use Rattle.std.specs.List.{AllByRecursion, list_any, position_or_len}
use Rattle.std.specs.Option.{option_map_or}
use Rattle.std.specs.Prelude.{◌==◌, if◌then◌else◌, nat_lt, unwrap_or}
use Rattle.std.proofs.lemmas.Bool.Decides.{nat_tests}
use Rattle.std.proofs.lemmas.List.Folds.{position_or_len_push}
use Rattle.iso_history.specs.After.{after, start}
use Rattle.iso_history.specs.Courses.{RecordsBegun, OnCourse}
use Rattle.std.proofs.lemmas.List.Sums.{prefix_len-le-length}
use Rattle.iso_history.specs.Facts.{UnitsApart}
use Rattle.iso_history.specs.Legal.{Allowed, By, ByAgent, ByDispatcher}
use Rattle.iso_history.specs.Makers.{by_agent, by_dispatcher}
use Rattle.iso_history.specs.Records.{count, debt, is_past_log, oldest}
use Rattle.iso_history.specs.Reserves.{FitsLog}
use Rattle.iso_history.specs.Versions.{next_rid, view}
use Rattle.iso_history.specs.Writes.{Written, deletes, inserts, judged_indexes, judged_log, judged_need, judged_room, minus, or_else, updates}
use Rattle.iso_history.specs.Writes.Written.{AtLimit, Blocks, Done, IsFull, Refuses}
use Rattle.iso_history.specs.Units.{Turn, is_open, unit_by, unit_of}
use Rattle.iso_history.specs.Units.Turn.{Begins, Ends, Stays}
use Rattle.iso_history.specs.World.{Note, World}
use Rattle.iso_history.specs.declared.entry.Act.{Act}
use Rattle.iso_history.specs.declared.entry.Act.TheVariants.{Commit, Delete, Dispatch, Insert, Rollback, Undo, Update}
use Rattle.iso_history.specs.declared.entry.Entry.{Entry}
use Rattle.iso_history.specs.declared.entry.Who.{Who}
use Rattle.iso_history.specs.declared.entry.Who.TheVariants.{Agent, Dispatcher}
use Rattle.iso_types.specs.Head.{conns, indexes_of, is_conn}
use Rattle.iso_types.specs.Ids.{conn_eq}
use Rattle.iso_types.specs.declared.head.Head.{Head}
use Rattle.iso_types.specs.declared.value.Conn.{Conn}
use Rattle.iso_types.specs.declared.value.Rid.{Rid}
use Rattle.iso_types.specs.declared.value.TableId.{TableId}
use Rattle.iso_types.specs.declared.value.Value.{Value}
use Rattle.iso_history.proofs.limits.Begun.{none_left, undo-unit, unit-of}
use Rattle.iso_history.proofs.limits.Courses.{running-unit}
use Rattle.iso_history.proofs.limits.Debts.{debt-by}
use Rattle.iso_history.proofs.limits.LogRoom.{debt-start, one-more}
use Rattle.iso_history.proofs.limits.Others.{at-other, at-same}
use Rattle.iso_history.proofs.limits.Sums.{some_conns}
use Rattle.iso_history.proofs.limits.Waiting.{conn_eq-is}

-- the unit is open at the connection
abbrev pub is_at : ℕ → Option ℕ → Bool
is_at u o = option_map_or (λ v. v == u) o false

any-here : {A : Type 0} (p : A → Bool) (x : A) (xs : List A) → p x ≡ true → list_any p (x ∷ xs) ≡ true
any-here p x xs e = rw e refl

any-later : {A : Type 0} (p : A → Bool) (x : A) (xs : List A) → list_any p xs ≡ true → list_any p (x ∷ xs) ≡ true
any-later p x xs h = either (p x) h
  where
    either : (b : Bool) → list_any p xs ≡ true → (b || list_any p xs) ≡ true
    either true h = refl
    either false h = h

any-weaker : {A : Type 0} (p q : A → Bool) (xs : List A) → ((x : A) → q x ≡ true → p x ≡ true) → list_any q xs ≡ true → list_any p xs ≡ true
any-weaker p q [] f h = h
any-weaker p q (x ∷ xs) f h = go (any-weaker p q xs f) (q x) refl h
  where
    go : (list_any q xs ≡ true → list_any p xs ≡ true) → (b : Bool) → q x ≡ b → (b || list_any q xs) ≡ true → list_any p (x ∷ xs) ≡ true
    go ih true e g = any-here p x xs (f x e)
    go ih false e g = any-later p x xs (ih g)

-- one of the head's connections passes
any-conn : (head : Head) (p : Conn → Bool) (c : Conn) → is_conn head c ≡ true → p c ≡ true → list_any p (conns head) ≡ true
any-conn head p c is e = some-passes c.0 0 (length head.conns) e (omega arith) (place c.0 (length head.conns) is)
  where
    place : (k n : ℕ) → nat_lt k n ≡ true → k < 0 + n
    place k n is = grind (arith, nat_tests)

    cases : (s k : ℕ) → s ≤ k → (s ≡ k) ⊎ (s + 1 ≤ k)
    cases s k le = grind arith

    some-passes : (k s n : ℕ) → p (record { 0 = k }) ≡ true → s ≤ k → k < s + n → list_any p (some_conns s n) ≡ true
    some-passes k s zero e le lt = absurd (omega (arith, le, lt))
    some-passes k s (suc n) e le lt = go (λ past. some-passes k (s + 1) n e past (omega (arith, lt))) (cases s k le)
      where
        go : (s + 1 ≤ k → list_any p (some_conns (s + 1) n) ≡ true) → (s ≡ k) ⊎ (s + 1 ≤ k) → list_any p (some_conns s (suc n)) ≡ true
        go later (inl is) = any-here p (record { 0 = s }) (some_conns (s + 1) n) (subst (λ (z : ℕ). p (record { 0 = z }) ≡ true) (sym is) e)
        go later (inr past) = any-later p (record { 0 = s }) (some_conns (s + 1) n) (later past)

-- the maker's unit is open
maker-open : (head : Head) (w : World) (c : Conn) → is_conn head c ≡ true → w.unit c ≡ Some (unit_of w c) → is_open head w (unit_of w c) ≡ true
maker-open head w c is e = any-conn head (λ d. is_at (unit_of w c) (w.unit d)) c is (ap (is_at (unit_of w c)) e ∙ same (unit_of w c))
  where
    same : (k : ℕ) → (k == k) ≡ true
    same k = grind (arith, nat_tests)

-- a unit that had begun and is open after an entry was open before it
open-turn : (w : World) (t : Turn) (u : ℕ) (d : Conn) → u ≤ w.begun → is_at u (unit_by w t d) ≡ true → is_at u (w.unit d) ≡ true
open-turn w Stays u d le e = e
open-turn w (Ends c) u d le e = go (conn_eq d c) refl
  where
    go : (b : Bool) → conn_eq d c ≡ b → is_at u (w.unit d) ≡ true
    go true f =
        let none = ap (unit_by w (Ends c)) (conn_eq-is d c f) ∙ at-same w.unit c None in
        let g = sym (ap (is_at u) none) ∙ e in absurd (cc)
    go false f = sym (ap (is_at u) (at-other w.unit c None d f)) ∙ e
open-turn w (Begins c) u d le e = go (conn_eq d c) refl (w.unit c) refl
  where
    unequal : (a b : ℕ) → b < a → (a == b) ≡ false
    unequal a b lt = grind (arith, nat_tests)

    go : (b : Bool) → conn_eq d c ≡ b → (o : Option ℕ) → w.unit c ≡ o → is_at u (w.unit d) ≡ true
    go false f o g = sym (ap (is_at u) (at-other w.unit c _ d f)) ∙ e
    go true f (Some v) g =
        let new = ap (unit_by w (Begins c)) (conn_eq-is d c f) ∙ at-same w.unit c _ ∙ ap (λ o. Some (unwrap_or o (w.begun + 1))) g in
        let old = ap w.unit (conn_eq-is d c f) ∙ g in
        ap (is_at u) old ∙ sym (ap (is_at u) new) ∙ e
    go true f None g =
        let new = ap (unit_by w (Begins c)) (conn_eq-is d c f) ∙ at-same w.unit c _ ∙ ap (λ o. Some (unwrap_or o (w.begun + 1))) g in
        let lt : u < w.begun + 1 = omega (arith, le) in
        let h = sym (ap (is_at u) new ∙ unequal (w.begun + 1) u lt) ∙ e in absurd (cc)

-- where fewer pass, the first one that does comes no earlier
first-later : {A : Type 0} (p q : A → Bool) (xs : List A) → AllByRecursion (λ x. q x ≡ true → p x ≡ true) xs
    → position_or_len p xs ≤ position_or_len q xs
first-later p q [] h = omega arith
first-later p q (x ∷ xs) h = go (first-later p q xs h.1) (p x) refl (q x) refl
  where
    here : (b : Bool) (k : ℕ) → b ≡ true → cond (not b) (1 + k) 0 ≡ 0
    here true k e = refl
    here false k e = absurd (cc)

    past : (b : Bool) (k : ℕ) → b ≡ false → cond (not b) (1 + k) 0 ≡ 1 + k
    past true k e = absurd (cc)
    past false k e = refl

    go : position_or_len p xs ≤ position_or_len q xs → (a : Bool) → p x ≡ a → (b : Bool) → q x ≡ b
        → position_or_len p (x ∷ xs) ≤ position_or_len q (x ∷ xs)
    go ih true e b f = let z = here (p x) (position_or_len p xs) e in omega (arith, z)
    go ih false e true f = let t = h.0 f in absurd (cc)
    go ih false e false f = let y = past (p x) (position_or_len p xs) e in let z = past (q x) (position_or_len q xs) f in omega (arith, y, z, ih)

begun-all : (begun : ℕ) (P : Note → Type 0) (notes : List Note) → ((n : Note) → n.unit ≤ begun → P n) → RecordsBegun begun notes → AllByRecursion P notes
unfolding RecordsBegun
begun-all begun P [] f h = tt
begun-all begun P (n ∷ ns) f h = (f n h.0.1, begun-all begun P ns f h.1)

-- by what an entry does to units, the oldest record of an open unit comes no earlier
oldest-turn : (head : Head) (w : World) (t : Turn) → RecordsBegun w.begun w.records
    → oldest head w ≤ position_or_len (λ n. list_any (λ d. is_at n.unit (unit_by w t d)) (conns head)) w.records
oldest-turn head w t h =
    first-later (λ n. is_open head w n.unit) (λ n. list_any (λ d. is_at n.unit (unit_by w t d)) (conns head)) w.records
    (begun-all w.begun _ w.records (λ n le. any-weaker (λ d. is_at n.unit (w.unit d)) (λ d. is_at n.unit (unit_by w t d)) (conns head)
    (λ d e. open-turn w t n.unit d le e)) h)

-- one more record of an open unit leaves it
oldest-pushed : (p : Note → Bool) (notes : List Note) (n : Note) → p n ≡ true → position_or_len p (notes ++ n ∷ []) ≡ position_or_len p notes
oldest-pushed p notes n e = position_or_len_push p notes n ∙ go (position_or_len p notes) (length notes) (p n) e
  where
    go : (k m : ℕ) (b : Bool) → b ≡ true → cond (eqb k m) (m + cond b 0 1) k ≡ k
    go k m b e = grind (arith, nat_tests)

oldest-le : (head : Head) (w : World) → oldest head w ≤ count w
oldest-le head w = prefix_len-le-length (λ n. not (is_open head w n.unit)) w.records

-- a write that may stand is not past the log
last-done : (a b : Written) → or_else a b ≡ Done → b ≡ Done
last-done Done b e = e
last-done IsFull b e = absurd (cc)
last-done (Refuses code) b e = absurd (cc)
last-done (Blocks name mode) b e = absurd (cc)
last-done AtLimit b e = absurd (cc)

not-past : (head : Head) (w : World) → judged_log head w ≡ Done → is_past_log head w ≡ false
not-past head w e = go (is_past_log head w) e
  where
    go : (b : Bool) → (if b then Refuses (minus 964) else Done) ≡ Done → b ≡ false
    go true e = absurd (cc)
    go false e = refl

log-left : (head : Head) (w : World) → judged_log head w ≡ Done → count w + 1 + debt head w + 1 ≤ oldest head w + head.config.logmax
log-left head w e = room _ _ _ _ (least _ _ (not-past head w e)) (oldest-le head w)
  where
    least : (m n : ℕ) → nat_lt m n ≡ false → n ≤ m
    least m n e = grind (arith, nat_tests)

    room : (k o d m : ℕ) → (k + 1 - o) + d + 1 ≤ m → o ≤ k → k + 1 + d + 1 ≤ o + m
    room k o d m le h = omega (arith, le, h)

log-inserts : (head : Head) (w : World) (c : Conn) (t : TableId) (row : List Value) → inserts head w c t row ≡ Done → judged_log head w ≡ Done
log-inserts head w c t row e =
    last-done (judged_need head w c _) _ (last-done (judged_indexes head w c t (next_rid w t) None row (indexes_of head t)) _ (last-done (judged_room w t) _ e))

log-updates : (head : Head) (w : World) (c : Conn) (t : TableId) (r : Rid) (row : List Value) → updates head w c t r row ≡ Done → judged_log head w ≡ Done
log-updates head w c t r row e =
    last-done (judged_need head w c _) _ (last-done (judged_indexes head w c t r (view w c t r) row (indexes_of head t)) _ e)

log-deletes : (head : Head) (w : World) (c : Conn) → deletes head w c ≡ Done → judged_log head w ≡ Done
log-deletes head w c e = last-done (judged_need head w c 0) _ e

-- a change that may stand, and an undo
log-change : (head : Head) (w v : World) (n : Note) → judged_log head w ≡ Done → v.records ≡ w.records ++ n ∷ [] → oldest head v ≡ oldest head w
    → debt head v ≡ debt head w + 1 → FitsLog head v
unfolding FitsLog
log-change head w v n fits is old owed =
    let left = log-left head w fits in
    let more = ap length is ∙ one-more w.records n in
    omega (arith, left, more, old, owed)

log-undo : (head : Head) (w v : World) (n : Note) → FitsLog head w → v.records ≡ w.records ++ n ∷ [] → oldest head v ≡ oldest head w
    → debt head v + 1 ≡ debt head w → FitsLog head v
unfolding FitsLog
log-undo head w v n fits is old owed = let more = ap length is ∙ one-more w.records n in omega (arith, fits, more, old, owed)

log-other : (head : Head) (w v : World) (less : ℕ) → FitsLog head w → v.records ≡ w.records → oldest head w ≤ oldest head v
    → debt head v + less ≡ debt head w + 0 → FitsLog head v
unfolding FitsLog
log-other head w v less fits is old owed = let same = ap length is in omega (arith, fits, same, old, owed)

plain : (a b : ℕ) → a + 0 ≡ b + 1 → a ≡ b + 1
plain a b e = omega (arith, e)

bare : (a b : ℕ) → a + 1 ≡ b + 0 → a + 1 ≡ b
bare a b e = omega (arith, e)

log-agent : (head : Head) (w : World) (c : Conn) (a : Act) → is_conn head c ≡ true → ByAgent head w c a → UnitsApart w → OnCourse w
    → RecordsBegun w.begun w.records → FitsLog head w → FitsLog head (after head w (by_agent c a))
unfolding FitsLog
log-agent head w c (Insert t r row) is al s co n fits =
    let open_unit = maker-open head w c is (unit-of w c (running-unit w c (co.each c) al.0.0)) in
    log-change head w (after head w (by_agent c (Insert t r row))) _ (log-inserts head w c t row al.4) refl
    (oldest-pushed (λ m. is_open head w m.unit) w.records _ open_unit)
    (plain _ _ (debt-by head w (Agent c) (Insert t r row) (is, al) s co (none_left w.begun w.records n)))
log-agent head w c (Update t r row) is al s co n fits =
    let open_unit = maker-open head w c is (unit-of w c (running-unit w c (co.each c) al.0.0)) in
    log-change head w (after head w (by_agent c (Update t r row))) _ (log-updates head w c t r row al.3) refl
    (oldest-pushed (λ m. is_open head w m.unit) w.records _ open_unit)
    (plain _ _ (debt-by head w (Agent c) (Update t r row) (is, al) s co (none_left w.begun w.records n)))
log-agent head w c (Delete t r) is al s co n fits =
    let open_unit = maker-open head w c is (unit-of w c (running-unit w c (co.each c) al.0.0)) in
    log-change head w (after head w (by_agent c (Delete t r))) _ (log-deletes head w c al.2) refl
    (oldest-pushed (λ m. is_open head w m.unit) w.records _ open_unit)
    (plain _ _ (debt-by head w (Agent c) (Delete t r) (is, al) s co (none_left w.begun w.records n)))
log-agent head w c (Undo k) is al s co n fits =
    let none = none_left w.begun w.records n in
    let open_unit = maker-open head w c is (unit-of w c (undo-unit w c k none al.1)) in
    log-undo head w (after head w (by_agent c (Undo k))) _ fits refl
    (oldest-pushed (λ m. is_open head w m.unit) w.records _ open_unit)
    (bare _ _ (debt-by head w (Agent c) (Undo k) (is, al) s co none))
log-agent head w c Commit is al s co n fits =
    log-other head w (after head w (by_agent c Commit)) _ fits refl (oldest-turn head w (Ends c) n)
    (debt-by head w (Agent c) Commit (is, al) s co (none_left w.begun w.records n))
log-agent head w c (Rollback code reason) is al s co n fits =
    log-other head w (after head w (by_agent c (Rollback code reason))) _ fits refl (oldest-turn head w (Ends c) n)
    (debt-by head w (Agent c) (Rollback code reason) (is, al) s co (none_left w.begun w.records n))
log-agent head w c Act.Ended is al s co n fits =
    log-other head w (after head w (by_agent c Act.Ended)) _ fits refl (oldest-turn head w (Ends c) n)
    (debt-by head w (Agent c) Act.Ended (is, al) s co (none_left w.begun w.records n))
log-agent head w c _ is al s co n fits = fits

log-dispatcher : (head : Head) (w : World) (a : Act) → ByDispatcher head w a → UnitsApart w → OnCourse w
    → RecordsBegun w.begun w.records → FitsLog head w → FitsLog head (after head w (by_dispatcher a))
unfolding FitsLog
log-dispatcher head w (Dispatch line c) al s co n fits =
    log-other head w (after head w (by_dispatcher (Dispatch line c))) 0 fits refl (oldest-turn head w (Begins c) n)
    (debt-by head w Dispatcher (Dispatch line c) al s co (none_left w.begun w.records n))
log-dispatcher head w (Insert t r row) al s co n fits = absurd al
log-dispatcher head w (Update t r row) al s co n fits = absurd al
log-dispatcher head w (Delete t r) al s co n fits = absurd al
log-dispatcher head w (Undo k) al s co n fits = absurd al
log-dispatcher head w _ al s co n fits = fits

pub fits_log-after : (head : Head) (w : World) (e : Entry) → Allowed head w e → UnitsApart w → OnCourse w → RecordsBegun w.begun w.records
    → FitsLog head w → FitsLog head (after head w e)
fits_log-after head w e al s co n fits = go e.who al.2
  where
    go : (who : Who) → By head w who e.act → FitsLog head (after head w (record { who = who; act = e.act }))
    go Dispatcher a = log-dispatcher head w e.act a s co n fits
    go (Agent c) a = log-agent head w c e.act a.0 a.1 s co n fits

pub fits_log-start : (head : Head) → FitsLog head (start head)
unfolding FitsLog
fits_log-start head = let z = debt-start head in omega (arith, z)
