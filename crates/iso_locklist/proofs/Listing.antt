-- What a snapshot lists: its loops, and the lines of the names in use.
use Rattle.std.proofs.Common.{Bor, zero, suc, ◌<◌, length, take, get_or, ◌≡◌, ◌+◌, ◌||◌, ℕ, Bool, true, List, [], ◌∷◌, ◌++◌, map, refl, ap, sym, ◌∙◌, append_assoc, arith, is_some, if◌then◌else◌, Option, None, Some}
use Rattle.std.proofs.lemmas.List.{append-nil}
use Rattle.std.proofs.lemmas.List.Folds.{list_any-append}
use Rattle.std.specs.List.{cons_option, flat_map, list_any, range_with_len}
use Rattle.std.specs.Option.{option_map}
use Rattle.iso_types.specs.Head.{conns}
use Rattle.iso_types.specs.declared.head.Head.{Head}
use Rattle.iso_types.specs.declared.value.Name.{Name}
use Rattle.std.specs.Prelude.{filter, filter_map}
use Rattle.std.proofs.lemmas.List.Elements.{filter_map-append}
use Rattle.std.proofs.lemmas.List.FromFn.{map-range_with_len_more}
use Rattle.iso_locklist.specs.Holding.{AreLines}
use Rattle.iso_locklist.specs.Lists.{named_hold, named_wait}
use Rattle.iso_locklist.specs.Snapshots.{holder_line, lines_of, waiter_line}
use Rattle.iso_locklist.specs.Places.{Place, nobody, place}
use Rattle.iso_locklist.proofs.Holding.{hold_shown}
use Rattle.iso_locklist.proofs.Lists.{any_map, any_seek}
use Rattle.iso_locklist.proofs.Settles.{map_append}
use Rattle.iso_modes.specs.declared.LockState.{LockState}
use Rattle.iso_queue.specs.Lines.{Line, hold_of, is_used}
use Rattle.iso_queue.specs.Locks.{Hold, hold_on}
use Rattle.iso_queue.specs.Queues.{Wait, queue}
use Rattle.iso_queue.specs.Snapshots.{line_of_hold, line_of_wait, lines_at}
use Rattle.iso_types.specs.Ids.{name_eq}
use Rattle.iso_queue.specs.declared.LockLine.{LockLine}
use Rattle.iso_types.specs.declared.value.Conn.{Conn}

abbrev conn_of : ℕ → Conn
conn_of k = record { 0 = k }

-- the lines of the holders below a number
abbrev pub holders_before : Place → ℕ → List LockLine
holders_before p k = map (holder_line p.name) (filter_map (hold_of p.queue.holders) (map (λ k. record { 0 = k }) (range_with_len 0 k)))

one_more : (p : Place) (k : ℕ) → holders_before p (k + 1) ≡ holders_before p k ++ map (holder_line p.name) (cons_option (hold_of p.queue.holders (record { 0 = k })) [])
one_more p k =
    let f = conn_of in
    ap (λ (cs : List Conn). map (holder_line p.name) (filter_map (hold_of p.queue.holders) cs)) (map-range_with_len_more f 0 k k (omega arith))
    ∙ ap (map (holder_line p.name)) (filter_map-append (hold_of p.queue.holders) (map f (range_with_len 0 k)) (record { 0 = k } ∷ []))
    ∙ map_append (holder_line p.name) (filter_map (hold_of p.queue.holders) (map f (range_with_len 0 k))) (cons_option (hold_of p.queue.holders (record { 0 = k })) [])

pub holder_more : (p : Place) (old now new : List LockLine) (k : ℕ) → now ≡ old ++ holders_before p k
    → new ≡ now ++ map (holder_line p.name) (cons_option (hold_of p.queue.holders (record { 0 = k })) []) → new ≡ old ++ holders_before p (k + 1)
holder_more p old now new k e f =
    f ∙ ap (λ (ls : List LockLine). ls ++ map (holder_line p.name) (cons_option (hold_of p.queue.holders (record { 0 = k })) [])) e
    ∙ (rw append_assoc refl)
    ∙ ap (λ (ls : List LockLine). old ++ ls) (sym (one_more p k))

-- a name that nobody holds or awaits has no line
none_held : (cs : List Conn) → filter_map (hold_of []) cs ≡ []
none_held [] = refl
none_held (c ∷ cs) = none_held cs

pub lines_nobody : (head : Head) (n : Name) → lines_of head (place n nobody) ≡ []
lines_nobody head n = ap (λ (hs : List _). map (holder_line n) hs ++ []) (none_held (conns head))

-- one item more
pub flat_more : {X A : Type 0} (f : X → List A) (xs : List X) (i : ℕ) (x : X) → i < length xs → x ≡ get_or xs i x → flat_map f (take (i + 1) xs) ≡ flat_map f (take i xs) ++ f x
flat_more f [] i x lt e = absurd (omega (arith, lt))
flat_more f (y ∷ ys) zero x lt e = append-nil (f y) ∙ ap f (sym e)
flat_more f (y ∷ ys) (suc i) x lt e =
    let k : suc i + 1 ≡ suc (i + 1) = omega arith in
    rw k (ap (λ (l : List _). f y ++ l) (flat_more f ys i x (omega (arith, lt)) e) ∙ sym (rw append_assoc refl))

-- ---- the lines of the names in use
found_map_by : {X Y : Type 0} (g : X → Y) (o : Option X) (xs : List X) (ys : List Y) → map g xs ≡ ys → cons_option (option_map g o) ys ≡ map g (cons_option o xs)
found_map_by g None xs ys e = sym e
found_map_by g (Some x) xs ys e = ap (λ (l : List _). g x ∷ l) (sym e)

found_map : {C X Y : Type 0} (g : X → Y) (h : C → Option X) (k : C → Option Y) (cs : List C) → ((c : C) → k c ≡ option_map g (h c)) → filter_map k cs ≡ map g (filter_map h cs)
found_map g h k [] same = refl
found_map g h k (c ∷ cs) same =
    ap (λ (o : Option _). cons_option o (filter_map k cs)) (same c)
    ∙ found_map_by g (h c) (filter_map h cs) (filter_map k cs) (sym (found_map g h k cs same))

map_twice : {X Y Z : Type 0} (f : Y → Z) (g : X → Y) (k : X → Z) (xs : List X) → ((x : X) → f (g x) ≡ k x) → map f (map g xs) ≡ map k xs
map_twice f g k [] same = refl
map_twice f g k (x ∷ xs) same = λ j. same x j ∷ map_twice f g k xs same j

some_map : {X Y : Type 0} (g : X → Y) (o : Option X) → is_some (option_map g o) ≡ is_some o
some_map g None = refl
some_map g (Some x) = refl

-- whether a name is one of those of items, of which those of the name are told
named_any : {X Y : Type 0} (name_of : Y → Name) (g : X → Y) (n : Name) (xs : List X) (ys : List Y) → map g xs ≡ filter (λ y. name_eq (name_of y) n) ys
    → list_any (λ m. name_eq m n) (map name_of ys) ≡ list_any (λ _. true) xs
named_any name_of g n xs ys e =
    any_map (λ m. name_eq m n) name_of ys
    ∙ any_seek (λ y. name_eq (name_of y) n) (λ _. true) (λ y. name_eq (name_of y) n) ys (λ y. refl)
    ∙ ap (list_any (λ _. true)) (sym e) ∙ any_map (λ _. true) g xs

module _ (hs : List Hold) (xs : List Wait) (line : Name → Line) (are : AreLines hs xs line) where
  -- the names of the holds and waits are those in use
  pub used_shown : (n : Name) → list_any (λ m. name_eq m n) (map (λ h. h.name) hs ++ map (λ x. x.name) xs) ≡ is_used (line n)
  used_shown n =
      list_any-append (λ m. name_eq m n) (map (λ h. h.name) hs) (map (λ x. x.name) xs)
      ∙ (λ j. named_any (λ (h : Hold). h.name) (named_hold n) n (line n).holders hs (are.holds n) j
      || named_any (λ (x : Wait). x.name) (named_wait n) n (line n).waiters xs (are.waits n) j)

  -- the lines at a name
  lines_shown : (head : Head) (n : Name) → lines_of head (place n (line n)) ≡ lines_at head hs xs n
  lines_shown head n =
      let q = line n in
      let held = filter_map (hold_of q.holders) (conns head) in
      let holds : map line_of_hold (filter_map (λ c. hold_on hs c n) (conns head)) ≡ map (holder_line n) held =
      ap (map line_of_hold) (found_map (named_hold n) (hold_of q.holders) (λ c. hold_on hs c n) (conns head) (λ c. sym (hold_shown hs xs line are c n)))
      ∙ map_twice line_of_hold (named_hold n) (holder_line n) held (λ h. refl) in
      let waits : map (line_of_wait hs) (queue xs n) ≡ map (waiter_line (place n q)) q.waiters =
      ap (map (line_of_wait hs)) (sym (are.waits n)) ∙ map_twice (line_of_wait hs) (named_wait n) (waiter_line (place n q)) q.waiters (λ w.
      ap (λ (b : Bool). record { name = n; conn = w.conn; mode = w.target; state = if b then LockState.Converting else LockState.Waiting })
      (ap is_some (sym (hold_shown hs xs line are w.conn n)) ∙ some_map (named_hold n) (hold_of q.holders w.conn))) in
      λ j. sym holds j ++ sym waits j

  -- and at names one after the other
  pub listed : (head : Head) (vs : List (Bor Name)) → flat_map (λ v. lines_of head (place v.now (line v.now))) vs ≡ flat_map (lines_at head hs xs) (map (λ v. v.now) vs)
  listed head [] = refl
  listed head (v ∷ vs) = λ j. lines_shown head v.now j ++ listed head vs j
