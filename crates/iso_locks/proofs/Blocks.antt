-- The lock of a blocked write is never granted at once: another connection's lock is in its way.
use Rattle.std.proofs.Common.{◌≡◌, ◌≤◌, ◌⊎◌, inl, inr, Bool, true, false, not, ◌&&◌, ◌||◌, List, [], ◌∷◌, refl, ap, sym, subst, ◌∙◌, arith, Some, None, Option, option_map, find, count_by}
use Rattle.std.specs.List.{list_any}
use Rattle.std.specs.Option.{option_map_or}
use Rattle.std.proofs.lemmas.Bool.{and_parts, or_cases}
use Rattle.std.proofs.lemmas.Cmp.{nat_eq_equiv}
use Rattle.iso_history.proofs.facts.Excludes.{apart-not, excludes, has_lock, kept-writes, passing}
use Rattle.iso_history.proofs.locks.Finds.{count-here, count-past, find-here, find-is, find-past}
use Rattle.iso_history.proofs.locks.Holds.{of-is}
use Rattle.iso_history.proofs.locks.Fits.{apart-turned, modes_together}
use Rattle.iso_history.proofs.locks.Lists.{any-found}
use Rattle.iso_history.proofs.locks.Modes.{reader-apart}
use Rattle.iso_history.proofs.locks.Same.{name_same}
use Rattle.iso_history.proofs.whole.Writers.{alone-where}
use Rattle.iso_history.specs.Facts.{AreSingle, HoldsBacked, IsSound, has_write_lock, keeps_mode}
use Rattle.iso_history.specs.Requests.{asking, is_backed, is_had, is_limited, may_ask, need_of, request, table_mode}
use Rattle.iso_history.specs.Requests.Outcome.{Gives}
use Rattle.iso_history.specs.Versions.{is_changed_beside}
use Rattle.iso_history.specs.World.{World}
use Rattle.iso_history.specs.Writes.{is_block}
use Rattle.iso_history.specs.declared.entry.Got.{Got}
use Rattle.iso_locklist.proofs.Lists.{is_hold}
use Rattle.iso_modes.proofs.Modes.{mode_eq-is}
use Rattle.iso_modes.specs.Modes.{at_least, compatible, covers, goes_with, joined, mode_eq, mode_number}
use Rattle.iso_modes.specs.Terms.{is_kept}
use Rattle.iso_modes.specs.declared.Mode.{Mode}
use Rattle.iso_modes.specs.declared.Mode.TheVariants.{In, Is, Ix, Ns, Nw, S, Six, U, X, Z}
use Rattle.iso_queue.specs.Locks.{Hold, held, hold_on, is_covered, is_covered_on, is_hold_of, others_guard, target}
use Rattle.iso_queue.specs.Queues.{opposes, would_wait}
use Rattle.iso_state.proofs.LockWrites.{by-tests}
use Rattle.iso_types.specs.Head.{table_of}
use Rattle.iso_types.specs.Ids.{conn_eq, name_eq}
use Rattle.iso_types.specs.declared.head.Head.{Head}
use Rattle.iso_types.specs.declared.value.Conn.{Conn}
use Rattle.iso_types.specs.declared.value.Name.{Name}
use Rattle.iso_types.specs.declared.value.Name.TheVariants.{End, Key, Row, Table}
use Rattle.iso_types.specs.declared.value.Rid.{Rid}
use Rattle.iso_types.specs.declared.value.TableId.{TableId}

or-left : (a b : Bool) → a ≡ true → (a || b) ≡ true
or-left true b e = refl
or-left false b e = cc e

both : {a b : Bool} → a ≡ true → b ≡ true → (a && b) ≡ true
both e f = rw (e, f) refl

-- what is granted is had, or would not wait
granted-has : (had limited waits may : Bool) (to : Mode) → by-tests had limited waits may to ≡ Gives Got.Granted → (had ≡ true) ⊎ (waits ≡ false)
granted-has true l s m to e = inl refl
granted-has false true s m to e = cc e
granted-has false false false m to e = inr refl
granted-has false false true true to e = cc e
granted-has false false true false to e = cc e

-- ---- modes
nw-covers-x : (a : Mode) → covers a Nw ≡ true → covers a X ≡ true
unfolding covers
nw-covers-x In e = cc e
nw-covers-x Is e = cc e
nw-covers-x Ns e = cc e
nw-covers-x S e = cc e
nw-covers-x Ix e = cc e
nw-covers-x Six e = cc e
nw-covers-x U e = cc e
nw-covers-x X e = refl
nw-covers-x Nw e = cc e
nw-covers-x Z e = refl

-- S and NW go with no mode that NW is joined to
s-apart : (a : Mode) → compatible S (joined a Nw) ≡ false
unfolding compatible goes_with joined mode_eq mode_number
s-apart In = refl
s-apart Is = refl
s-apart Ns = refl
s-apart S = refl
s-apart Ix = refl
s-apart Six = refl
s-apart U = refl
s-apart X = refl
s-apart Nw = refl
s-apart Z = refl

nw-apart : (a : Mode) → compatible Nw (joined a Nw) ≡ false
unfolding compatible goes_with joined mode_eq mode_number
nw-apart In = refl
nw-apart Is = refl
nw-apart Ns = refl
nw-apart S = refl
nw-apart Ix = refl
nw-apart Six = refl
nw-apart U = refl
nw-apart X = refl
nw-apart Nw = refl
nw-apart Z = refl

-- what is X or more goes with no mode that NS is joined to
x-apart : (b a : Mode) → at_least b X ≡ true → compatible b (joined a Ns) ≡ false
unfolding compatible goes_with joined at_least mode_eq mode_number
x-apart In a e = cc e
x-apart Is a e = cc e
x-apart Ns a e = cc e
x-apart S a e = cc e
x-apart Ix a e = cc e
x-apart Six a e = cc e
x-apart U a e = cc e
x-apart Nw a e = cc e
x-apart X In e = refl
x-apart X Is e = refl
x-apart X Ns e = refl
x-apart X S e = refl
x-apart X Ix e = refl
x-apart X Six e = refl
x-apart X U e = refl
x-apart X X e = refl
x-apart X Nw e = refl
x-apart X Z e = refl
x-apart Z In e = refl
x-apart Z Is e = refl
x-apart Z Ns e = refl
x-apart Z S e = refl
x-apart Z Ix e = refl
x-apart Z Six e = refl
x-apart Z U e = refl
x-apart Z X e = refl
x-apart Z Nw e = refl
x-apart Z Z e = refl

s-bare : compatible S Nw ≡ false
unfolding compatible goes_with mode_eq mode_number
s-bare = refl

nw-bare : compatible Nw Nw ≡ false
unfolding compatible goes_with mode_eq mode_number
nw-bare = refl

x-bare : (b : Mode) → at_least b X ≡ true → compatible b Ns ≡ false
unfolding compatible goes_with joined at_least mode_eq mode_number
x-bare In e = cc e
x-bare Is e = cc e
x-bare Ns e = cc e
x-bare S e = cc e
x-bare Ix e = cc e
x-bare Six e = cc e
x-bare U e = cc e
x-bare Nw e = cc e
x-bare X e = refl
x-bare Z e = refl

-- ---- a hold of another connection that guards the name
abbrev pub guards : Conn → Name → Hold → Bool
guards c n h = not (conn_eq h.conn c) && (name_eq h.name n && (mode_eq h.mode S || mode_eq h.mode Nw))

record Guardian (c : Conn) (n : Name) (hs : List Hold) : Type 0 where
  guardian : Hold
  passes : guards c n guardian ≡ true
  counted : 1 ≤ count_by (is_hold_of guardian.conn n) hs
  found : count_by (is_hold_of guardian.conn n) hs ≤ 1 → find (is_hold_of guardian.conn n) hs ≡ Some guardian

own-is : (c : Conn) (n : Name) (h : Hold) → guards c n h ≡ true → is_hold_of h.conn n h ≡ true
own-is c n h e = is_hold h.conn n h ∙ both (nat_eq_equiv.refl h.conn.0) (and_parts _ _ (and_parts _ _ e).1).0

guardian-in : (c : Conn) (n : Name) (hs : List Hold) → list_any (guards c n) hs ≡ true → Guardian c n hs
guardian-in c n [] e = cc e
guardian-in c n (x ∷ xs) e = go (guards c n x) refl (guardian-in c n xs)
  where
    rest : guards c n x ≡ false → list_any (guards c n) xs ≡ true
    rest f = sym (ap (λ (b : Bool). b || list_any (guards c n) xs) f) ∙ e

    go : (b : Bool) → guards c n x ≡ b → (list_any (guards c n) xs ≡ true → Guardian c n xs) → Guardian c n (x ∷ xs)
    go true f ih =
        let own = own-is c n x f in
        record {
          guardian = x;
          passes = f;
          counted = (let k = count-here (is_hold_of x.conn n) x xs own in omega (arith, k));
          found = λ le. find-here (is_hold_of x.conn n) x xs own;
        }
    go false f ih =
        let g = ih (rest f) in
        let more = counts (is_hold_of g.guardian.conn n x) g.guardian g.counted refl in
        record {
          guardian = g.guardian;
          passes = g.passes;
          counted = more.0;
          found = λ le. more.1 le g.found;
        }
      where
        counts : (b : Bool) → (h : Hold) → 1 ≤ count_by (is_hold_of h.conn n) xs → is_hold_of h.conn n x ≡ b
            → (1 ≤ count_by (is_hold_of h.conn n) (x ∷ xs))
            × (count_by (is_hold_of h.conn n) (x ∷ xs) ≤ 1 → (count_by (is_hold_of h.conn n) xs ≤ 1 → find (is_hold_of h.conn n) xs ≡ Some h)
            → find (is_hold_of h.conn n) (x ∷ xs) ≡ Some h)
        counts true h some k =
            let one = count-here (is_hold_of h.conn n) x xs k in
            (omega (arith, one), λ le found. absurd (omega (arith, one, some, le)))
        counts false h some k =
            let one = count-past (is_hold_of h.conn n) x xs k in
            (omega (arith, one, some), λ le found. find-past (is_hold_of h.conn n) x xs k ∙ found (omega (arith, one, le)))

-- what all of one test have, some have
any-implied : (p q : Hold → Bool) → ((h : Hold) → p h ≡ true → q h ≡ true) → (hs : List Hold) → list_any p hs ≡ true → list_any q hs ≡ true
any-implied p q all [] e = cc e
any-implied p q all (h ∷ hs) e = go (p h) refl (any-implied p q all hs)
  where
    or-right : (a b : Bool) → b ≡ true → (a || b) ≡ true
    or-right true b e = refl
    or-right false b e = e

    go : (b : Bool) → p h ≡ b → (list_any p hs ≡ true → list_any q hs ≡ true) → (q h || list_any q hs) ≡ true
    go true k ih = or-left (q h) _ (all h k)
    go false k ih = or-right (q h) _ (ih (sym (ap (λ (b : Bool). b || list_any p hs) k) ∙ e))

-- S or NW goes with no target of NW
guard-apart : (x : Option Mode) (m : Mode) → (mode_eq m S || mode_eq m Nw) ≡ true → compatible m (option_map_or (λ h. joined h Nw) x Nw) ≡ false
guard-apart x m e = go (or_cases _ _ e) x
  where
    go : (mode_eq m S ≡ true) ⊎ (mode_eq m Nw ≡ true) → (y : Option Mode) → compatible m (option_map_or (λ h. joined h Nw) y Nw) ≡ false
    go (inl h) None = ap (λ (z : Mode). compatible z Nw) (mode_eq-is m S h) ∙ s-bare
    go (inl h) (Some a) = ap (λ (z : Mode). compatible z (joined a Nw)) (mode_eq-is m S h) ∙ s-apart a
    go (inr h) None = ap (λ (z : Mode). compatible z Nw) (mode_eq-is m Nw h) ∙ nw-bare
    go (inr h) (Some a) = ap (λ (z : Mode). compatible z (joined a Nw)) (mode_eq-is m Nw h) ∙ nw-apart a

module _ (head : Head) (w : World) (s : IsSound head w) (c : Conn) where
  -- ---- a guard
  guard-opposed : (n : Name) → others_guard w.holds c n ≡ true → list_any (opposes (asking w c n Nw)) w.holds ≡ true
  unfolding opposes
  guard-opposed n e = any-implied (guards c n) (opposes (asking w c n Nw)) one w.holds e
    where
      one : (h : Hold) → guards c n h ≡ true → opposes (asking w c n Nw) h ≡ true
      one h k =
          let p = and_parts _ _ k in
          let q = and_parts _ _ p.1 in
          both p.0 (both q.0 (ap not (guard-apart (held w.holds c n) h.mode q.1)))

  off : (b : Bool) → not b ≡ true → b ≡ false
  off false e = refl
  off true e = cc e

  guard-had : (n : Name) → others_guard w.holds c n ≡ true → is_had head w c n Nw ≡ true → ⊥
  unfolding AreSingle HoldsBacked
  guard-had n e had = go (or_cases _ _ had)
    where
      g : Guardian c n w.holds
      g = guardian-in c n w.holds e

      there : (x : Guardian c n w.holds) → hold_on w.holds x.guardian.conn n ≡ Some x.guardian
      there x = x.found (s.locks.single x.guardian.conn n)

      away : (x : Guardian c n w.holds) → conn_eq x.guardian.conn c ≡ false
      away x =
          off (conn_eq x.guardian.conn c)
          (and_parts (not (conn_eq x.guardian.conn c)) (name_eq x.guardian.name n && (mode_eq x.guardian.mode S || mode_eq x.guardian.mode Nw)) x.passes).0

      mode : (x : Guardian c n w.holds) → (mode_eq x.guardian.mode S || mode_eq x.guardian.mode Nw) ≡ true
      mode x =
          (and_parts (name_eq x.guardian.name n) (mode_eq x.guardian.mode S || mode_eq x.guardian.mode Nw)
          (and_parts (not (conn_eq x.guardian.conn c)) (name_eq x.guardian.name n && (mode_eq x.guardian.mode S || mode_eq x.guardian.mode Nw)) x.passes).1).1

      holds : (x : Guardian c n w.holds) → held w.holds x.guardian.conn n ≡ Some x.guardian.mode
      holds x = ap (option_map (λ (h : Hold). h.mode)) (there x)

      covered : (x : Guardian c n w.holds) → (o : Option TableId) → table_of head n ≡ o → option_map_or (is_covered_on w.holds c Nw) o false ≡ true → ⊥
      covered x None k h = cc h
      covered x (Some t) k h =
          let a = passing (λ z. covers z Nw) (held w.holds c (Table t)) h in
          let b = passing (λ z. at_least z (table_mode x.guardian.mode)) (held w.holds x.guardian.conn (Table t))
          (s.locks.backed x.guardian.conn n t x.guardian k (there x)) in
          apart-not (compatible b.0 a.0) (reader-apart b.0 a.0 x.guardian.mode b.2 (nw-covers-x a.0 a.2))
          (modes_together w.holds s.locks.together x.guardian.conn c (Table t) b.0 a.0 (away x) b.1 a.1)

      own : (x : Guardian c n w.holds) → (o : Option Mode) → held w.holds c n ≡ o
          → option_map_or (mode_eq (option_map_or (λ h. joined h Nw) o Nw)) o false ≡ true → ⊥
      own x None k h = cc h
      own x (Some a) k h =
          let same : joined a Nw ≡ a = mode_eq-is (joined a Nw) a h in
          let none : compatible x.guardian.mode (joined a Nw) ≡ false = guard-apart (Some a) x.guardian.mode (mode x) in
          let some = modes_together w.holds s.locks.together x.guardian.conn c n x.guardian.mode a (away x) (holds x) k in
          cc (sym none ∙ ap (compatible x.guardian.mode) same ∙ some)

      go : (is_covered head w.holds c n Nw ≡ true) ⊎ (option_map_or (mode_eq (target w.holds c n Nw)) (held w.holds c n) false ≡ true) → ⊥
      go (inl h) = covered g (table_of head n) refl h
      go (inr h) = own g (held w.holds c n) refl h

  -- ---- a row with another unit's pending version
  module _ (t : TableId) (r : Rid) (beside : is_changed_beside w c t r ≡ true) where
    -- it has a writer beside this connection
    no-writer : ((d : Conn) → conn_eq c d ≡ false → has_write_lock head w.holds d t r ≡ true → ⊥) → ⊥
    no-writer none = cc (sym beside ∙ alone-where head w s t r c none)

    held-enough : (o : Option Mode) → option_map_or (mode_eq (option_map_or (λ h. joined h Ns) o Ns)) o false ≡ true
        → option_map_or (λ a. at_least a Ns) o false ≡ true
    unfolding at_least
    held-enough None e = cc e
    held-enough (Some a) e = e

    row-had : is_had head w c (Row t r) Ns ≡ true → ⊥
    row-had had = no-writer (λ d away lock. excludes head w s.locks t r c d away (reads (or_cases _ _ had)) (kept-writes head w s.locks t r d lock))
      where
        or-second : (a b : Bool) → b ≡ true → (a || b) ≡ true
        or-second true b e = refl
        or-second false b e = e

        reads : (is_covered head w.holds c (Row t r) Ns ≡ true) ⊎ (option_map_or (mode_eq (target w.holds c (Row t r) Ns)) (held w.holds c (Row t r)) false ≡ true)
            → has_lock head w.holds c t r Ns ≡ true
        reads (inl h) = or-left _ _ h
        reads (inr h) = or-second _ _ (held-enough (held w.holds c (Row t r)) h)

    target-apart : (b : Mode) (o : Option Mode) → at_least b X ≡ true → compatible b (option_map_or (λ h. joined h Ns) o Ns) ≡ false
    target-apart b None e = x-bare b e
    target-apart b (Some a) e = x-apart b a e

    -- a writer opposes NS
    writer-opposes : (d : Conn) (h : Hold) → conn_eq c d ≡ false → hold_on w.holds d (Row t r) ≡ Some h → at_least h.mode X ≡ true
        → list_any (opposes (asking w c (Row t r) Ns)) w.holds ≡ true
    unfolding opposes
    writer-opposes d h away e enough =
        let own = of-is d (Row t r) h (find-is (is_hold_of d (Row t r)) w.holds h e) in
        let aside : not (conn_eq h.conn c) ≡ true = ap not (ap (λ (y : Conn). conn_eq y c) own.0 ∙ apart-turned c d away) in
        let same : name_eq h.name (Row t r) ≡ true = ap (λ (y : Name). name_eq y (Row t r)) own.1 ∙ name_same (Row t r) in
        any-found (is_hold_of d (Row t r)) (opposes (asking w c (Row t r) Ns)) w.holds h e
        (both aside (both same (ap not (target-apart h.mode (held w.holds c (Row t r)) enough))))

    row-opposed : may_ask head w c (Row t r) Ns ≡ true → list_any (opposes (asking w c (Row t r) Ns)) w.holds ≡ false → ⊥
    row-opposed may free = no-writer (λ d away lock. go d away (or_cases _ _ lock))
      where
        kept : (x : Option Hold) → option_map_or (λ h. is_kept h.term && at_least h.mode X) x false ≡ true
            → (h : Hold) × (x ≡ Some h) × (at_least h.mode X ≡ true)
        kept None e = cc e
        kept (Some h) e = (h, refl, (and_parts _ _ e).1)

        backed : (d : Conn) → conn_eq c d ≡ false → is_covered head w.holds d (Row t r) X ≡ true
            → (is_covered head w.holds c (Row t r) Ns ≡ true) ⊎ (is_backed head w c (Row t r) Ns ≡ true) → ⊥
        backed d away cover (inl h) = excludes head w s.locks t r c d away (or-left _ _ h) (or-left _ _ cover)
        backed d away cover (inr h) =
            let a = passing (λ z. at_least z (table_mode Ns)) (held w.holds c (Table t)) h in
            let b = passing (λ z. covers z X) (held w.holds d (Table t)) cover in
            apart-not (compatible a.0 b.0) (reader-apart a.0 b.0 Ns a.2 b.2)
            (modes_together w.holds s.locks.together c d (Table t) a.0 b.0 away a.1 b.1)

        go : (d : Conn) → conn_eq c d ≡ false → (is_covered head w.holds d (Row t r) X ≡ true) ⊎ (keeps_mode w.holds d (Row t r) X ≡ true) → ⊥
        go d away (inl cover) = backed d away cover (or_cases _ _ (and_parts _ _ (and_parts _ _ may).1).1)
        go d away (inr k) =
            let h = kept (hold_on w.holds d (Row t r)) k in
            cc (sym free ∙ writer-opposes d h.0 away h.1 h.2)

  first-false : (a b : Bool) → (a || b) ≡ false → a ≡ false
  first-false false b e = refl
  first-false true b e = cc e

  guarded : (n : Name) (m : Mode) → (mode_eq m Nw && others_guard w.holds c n) ≡ true → request head w c n m ≡ Gives Got.Granted → ⊥
  guarded n m block granted =
      let k = and_parts _ _ block in
      let is : m ≡ Nw = mode_eq-is m Nw k.0 in
      go k.1
      (granted-has (is_had head w c n Nw) (is_limited head w c (need_of w c n)) (would_wait w.holds w.waits (asking w c n Nw))
      (w.setting c).may_wait (target w.holds c n Nw) (subst (λ (z : Mode). request head w c n z ≡ Gives Got.Granted) is granted))
    where
      go : others_guard w.holds c n ≡ true → (is_had head w c n Nw ≡ true) ⊎ (would_wait w.holds w.waits (asking w c n Nw) ≡ false) → ⊥
      go others (inl had) = guard-had n others had
      go others (inr free) = cc (sym (first-false _ _ free) ∙ guard-opposed n others)

  -- so the lock of a blocked write is not granted
  pub never-granted : (n : Name) (m : Mode) → may_ask head w c n m ≡ true → is_block head w c n m ≡ true → request head w c n m ≡ Gives Got.Granted → ⊥
  never-granted (Table t) m may block granted = cc block
  never-granted (Row t r) m may block granted =
      let k = and_parts _ _ block in
      let is : m ≡ Ns = mode_eq-is m Ns k.0 in
      let beside = (and_parts _ _ k.1).0 in
      row beside (subst (λ (z : Mode). may_ask head w c (Row t r) z ≡ true) is may)
      (granted-has (is_had head w c (Row t r) Ns) (is_limited head w c (need_of w c (Row t r))) (would_wait w.holds w.waits (asking w c (Row t r) Ns))
      (w.setting c).may_wait (target w.holds c (Row t r) Ns) (subst (λ (z : Mode). request head w c (Row t r) z ≡ Gives Got.Granted) is granted))
    where
      row : is_changed_beside w c t r ≡ true → may_ask head w c (Row t r) Ns ≡ true
          → (is_had head w c (Row t r) Ns ≡ true) ⊎ (would_wait w.holds w.waits (asking w c (Row t r) Ns) ≡ false) → ⊥
      row beside may (inl had) = row-had t r beside had
      row beside may (inr free) = row-opposed t r beside may (first-false _ _ free)
  never-granted (Key i v) m may block granted = guarded (Key i v) m block granted
  never-granted (End i) m may block granted = guarded (End i) m block granted
