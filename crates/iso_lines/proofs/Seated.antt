-- What one connection changed leaves the names of each connection as they should be.
use Rattle.std.proofs.Common.{◌<◌, ◌≤◌, arith, Result, Ok, Err, OnErr, map, slice_index_or, ◌≡◌, ◌≢◌, ◌⊎◌, ℕ, zero, suc, Bool, true, false, List, [], ◌∷◌, Some, is_some, slice_get, slice_set, refl, sym, ap, subst, ◌∙◌, inl, inr}
use Rattle.std.proofs.lemmas.Bool.Decides.{eqb_tells}
use Rattle.std.proofs.lemmas.List.{length-set}
use Rattle.iso_queue.specs.Lines.{Line, hold_of, is_touched, is_waiter}
use Rattle.iso_types.specs.Ids.{conn_eq, name_eq}
use Rattle.iso_types.specs.declared.value.Conn.{Conn}
use Rattle.iso_types.specs.declared.value.Name.{Name}
use Rattle.iso_types.specs.declared.value.TableId.{TableId}
use Rattle.iso_lines.proofs.Tests.{same_names}
use Rattle.iso_lines.proofs.Touched.{key_like, same_some, no_some}
use Rattle.iso_lines.proofs.Weighing.{weighed_rests}
use Rattle.iso_lines.specs.Locks.{IsSeated, counts_below, is_at_hand, names_at}
use Rattle.iso_lines.specs.Registers.{IsLocks}
use Rattle.iso_lines.specs.Weighs.{IsWeighed, is_long}
use Rattle.iso_lines.specs.Named.{Named, key_of, line_of, nobody, line_under, same}
use Rattle.iso_lines.specs.declared.desk.Desk.{Desk}
use Rattle.std.specs.List.{IsDistinct}
use Rattle.std.specs.Map.{keys_of}
use Rattle.std.specs.Option.{option_map_or}

-- what stands where it was put
pub set_here : {X : Type 0} (xs : List X) (i : ℕ) (y z : X) → slice_get (slice_set xs i y) i ≡ Some z → z ≡ y
set_here [] i y z e = absurd (no_some e)
set_here (x ∷ xs) zero y z e = sym (same_some e)
set_here (x ∷ xs) (suc i) y z e = set_here xs i y z e

pub set_there : {X : Type 0} (xs : List X) (i j : ℕ) (y : X) → i ≢ j → slice_get (slice_set xs i y) j ≡ slice_get xs j
set_there [] i j y ne = refl
set_there (x ∷ xs) zero zero y ne = absurd (ne refl)
set_there (x ∷ xs) zero (suc j) y ne = refl
set_there (x ∷ xs) (suc i) zero y ne = refl
set_there (x ∷ xs) (suc i) (suc j) y ne = set_there xs i j y (λ e. ne (ap suc e))

-- the same name has the same line
pub line_like : (l : Named) (n m : Name) → name_eq n m ≡ true → line_of l n ≡ line_of l m
line_like l n m e = ap (λ o. option_map_or (line_under l.slots) o nobody) (key_like l.index n m e)

-- the connection of this number
abbrev pub conn : ℕ → Conn
conn c = record { 0 = c }

-- what a line keeps of a connection: it is touched and weighs as before, and nothing of it is at hand or waits that did not
pub record Rests (q r : Line) (d : Conn) : Type 0 where
  pub touched : is_touched r d ≡ is_touched q d
  pub at_hand : is_at_hand d r ≡ true → is_at_hand d q ≡ true
  pub waiting : is_waiter r.waiters d ≡ true → is_waiter q.waiters d ≡ true
  pub long : is_long (hold_of r.holders d) ≡ is_long (hold_of q.holders d)

pub rests_same : (q r : Line) (d : Conn) → r ≡ q → Rests q r d
rests_same q r d e = record {
  touched = ap (λ l. is_touched l d) e;
  at_hand = λ h. ap (is_at_hand d) (sym e) ∙ h;
  waiting = λ h. ap (λ (l : Line). is_waiter l.waiters d) (sym e) ∙ h;
  long = ap (λ (l : Line). is_long (hold_of l.holders d)) e;
}

-- the lines of all names keep it where one name's line does and all others stay
pub rests_one : (lines new : Named) (n : Name) → ((m : Name) → name_eq n m ≡ false → line_of new m ≡ line_of lines m) → (d : Conn)
    → Rests (line_of lines n) (line_of new n) d → (m : Name) → Rests (line_of lines m) (line_of new m) d
rests_one lines new n others d here m = by (name_eq n m) refl
  where
    by : (b : Bool) → name_eq n m ≡ b → Rests (line_of lines m) (line_of new m) d
    by true e = subst (λ (q : Line). Rests q (line_of new m) d) (line_like lines n m e) (subst (λ (r : Line). Rests (line_of lines n) r d) (line_like new n m e) here)
    by false e = rests_same (line_of lines m) (line_of new m) d (others m e)

-- whoever touches a line touched it, where one name's line has nobody new and all others stay
pub touched_back : (lines new : Named) (n : Name) (c : Conn) → ((m : Name) → name_eq n m ≡ false → line_of new m ≡ line_of lines m)
    → (is_touched (line_of new n) c ≡ true → is_touched (line_of lines n) c ≡ true) → (m : Name) → is_touched (line_of new m) c ≡ true → is_touched (line_of lines m) c ≡ true
touched_back lines new n c others own m h = by (name_eq n m) refl
  where
    by : (b : Bool) → name_eq n m ≡ b → is_touched (line_of lines m) c ≡ true
    by true e = ap (λ (l : Line). is_touched l c) (sym (line_like lines n m e)) ∙ own (ap (λ (l : Line). is_touched l c) (line_like new n m e) ∙ h)
    by false e = ap (λ (l : Line). is_touched l c) (sym (others m e)) ∙ h

-- one connection's desk is as it should be after a change of one name's line
module _ (lines new : Named) (c : Conn) (old desk : Desk) (inv : IsSeated lines c old) (n : Name)
    (others : (m : Name) → name_eq n m ≡ false → line_of new m ≡ line_of lines m)
    (own : is_some (key_of desk.names.entries n) ≡ is_touched (line_of new n) c)
    (names : (m : Name) → same n m ≡ false → key_of desk.names.entries m ≡ key_of old.names.entries m)
    (loose : is_at_hand c (line_of new n) ≡ true → (is_some (key_of desk.loose.entries n) ≡ true) ⊎ (is_at_hand c (line_of lines n) ≡ true))
    (more : (m : Name) → is_some (key_of old.loose.entries m) ≡ true → is_some (key_of desk.loose.entries m) ≡ true)
    (waits : is_waiter (line_of new n).waiters c ≡ true → (is_some (key_of desk.awaited.entries n) ≡ true) ⊎ (is_waiter (line_of lines n).waiters c ≡ true))
    (rest : (m : Name) → is_some (key_of old.awaited.entries m) ≡ true → is_some (key_of desk.awaited.entries m) ≡ true) where
  own_touched : (m : Name) → is_some (key_of desk.names.entries m) ≡ is_touched (line_of new m) c
  own_touched m = by (name_eq n m) refl
    where
      by : (b : Bool) → name_eq n m ≡ b → is_some (key_of desk.names.entries m) ≡ is_touched (line_of new m) c
      by true e = ap is_some (sym (key_like desk.names.entries n m e)) ∙ own ∙ ap (λ l. is_touched l c) (line_like new n m e)
      by false e = ap is_some (names m (same_names n m ∙ e)) ∙ inv.touched m ∙ ap (λ l. is_touched l c) (sym (others m e))

  own_loose : (m : Name) → is_at_hand c (line_of new m) ≡ true → is_some (key_of desk.loose.entries m) ≡ true
  own_loose m h = by (name_eq n m) refl
    where
      by : (b : Bool) → name_eq n m ≡ b → is_some (key_of desk.loose.entries m) ≡ true
      by true e =
          elim (loose (ap (is_at_hand c) (line_like new n m e) ∙ h)) [
            | inl f ↦ ap is_some (sym (key_like desk.loose.entries n m e)) ∙ f
            | inr f ↦ more m (inv.at_hand m (ap (is_at_hand c) (sym (line_like lines n m e)) ∙ f))
          ]
      by false e = more m (inv.at_hand m (ap (is_at_hand c) (sym (others m e)) ∙ h))

  own_wait : (m : Name) → is_waiter (line_of new m).waiters c ≡ true → is_some (key_of desk.awaited.entries m) ≡ true
  own_wait m h = by (name_eq n m) refl
    where
      by : (b : Bool) → name_eq n m ≡ b → is_some (key_of desk.awaited.entries m) ≡ true
      by true e =
          elim (waits (ap (λ (l : Line). is_waiter l.waiters c) (line_like new n m e) ∙ h)) [
            | inl f ↦ ap is_some (sym (key_like desk.awaited.entries n m e)) ∙ f
            | inr f ↦ rest m (inv.waiting m (ap (λ (l : Line). is_waiter l.waiters c) (sym (line_like lines n m e)) ∙ f))
          ]
      by false e = rest m (inv.waiting m (ap (λ (l : Line). is_waiter l.waiters c) (sym (others m e)) ∙ h))

  pub seated-one : IsSeated new c desk
  seated-one = record { touched = own_touched; at_hand = own_loose; waiting = own_wait }

-- all desks are, where that of the connection is and the lines keep what they have of all others
module _ (lines new : Named) (desks : List Desk) (total : ℕ) (tables : List TableId) (inv : IsLocks lines desks total tables) (c : ℕ) (desk : Desk) (own : IsSeated new (conn c) desk)
    (weights : IsWeighed tables new (conn c) desk.names.entries desk.weights.items)
    (once : IsDistinct same (keys_of desk.names.entries))
    (within : c < 32) (rest : (d : Conn) → conn_eq (conn c) d ≡ false → (n : Name) → Rests (line_of lines n) (line_of new n) d) where
  one_seated : (e : ℕ) (d : Desk) → slice_get (slice_set desks c desk) e ≡ Some d → IsSeated new (conn e) d
  one_seated e d g =
      elim (eqb_tells c e) [
        | inl y ↦
            let here : slice_get (slice_set desks c desk) c ≡ Some d = subst (λ i. slice_get (slice_set desks c desk) i ≡ Some d) (sym y.1) g in
            subst (λ (i : ℕ). IsSeated new (conn i) d) y.1 (subst (λ (x : Desk). IsSeated new (conn c) x) (sym (set_here desks c desk d here)) own)
        | inr y ↦
            let was = inv.seated e d (sym (set_there desks c e desk y.1) ∙ g) in
            record {
              touched = λ n. was.touched n ∙ sym (rest (conn e) y.0 n).touched;
              at_hand = λ n h. was.at_hand n ((rest (conn e) y.0 n).at_hand h);
              waiting = λ n h. was.waiting n ((rest (conn e) y.0 n).waiting h);
            }
      ]

  one_unique : (e : ℕ) (d : Desk) → slice_get (slice_set desks c desk) e ≡ Some d → IsDistinct same (keys_of d.names.entries)
  one_unique e d g =
      elim (eqb_tells c e) [
        | inl y ↦
            let here : slice_get (slice_set desks c desk) c ≡ Some d = subst (λ i. slice_get (slice_set desks c desk) i ≡ Some d) (sym y.1) g in
            subst (λ (x : Desk). IsDistinct same (keys_of x.names.entries)) (sym (set_here desks c desk d here)) once
        | inr y ↦ inv.unique e d (sym (set_there desks c e desk y.1) ∙ g)
      ]

  one_weighed : (e : ℕ) (d : Desk) → slice_get (slice_set desks c desk) e ≡ Some d → IsWeighed tables new (conn e) d.names.entries d.weights.items
  one_weighed e d g =
      elim (eqb_tells c e) [
        | inl y ↦
            let here : slice_get (slice_set desks c desk) c ≡ Some d = subst (λ i. slice_get (slice_set desks c desk) i ≡ Some d) (sym y.1) g in
            subst (λ (i : ℕ). IsWeighed tables new (conn i) d.names.entries d.weights.items) y.1
            (subst (λ (x : Desk). IsWeighed tables new (conn c) x.names.entries x.weights.items) (sym (set_here desks c desk d here)) weights)
        | inr y ↦
            weighed_rests tables (conn e) lines new d.names.entries d.weights.items (inv.weighed e d (sym (set_there desks c e desk y.1) ∙ g)) (λ n. (rest (conn e) y.0 n).long)
      ]

  one_beyond : (e : ℕ) → 32 ≤ e → (n : Name) → is_touched (line_of new n) (conn e) ≡ false
  one_beyond e le n = elim (eqb_tells c e) [
    | inl y ↦ absurd (omega (arith, le, within, y.1))
    | inr y ↦ (rest (conn e) y.0 n).touched ∙ inv.beyond e le n
  ]

  pub seated-all : (now : ℕ) → now ≡ counts_below (names_at (slice_set desks c desk)) 32 → IsLocks new (slice_set desks c desk) now tables
  seated-all now all = record { size = length-set desks c desk ∙ inv.size; seated = one_seated; unique = one_unique; weighed = one_weighed; beyond = one_beyond; all = all }

-- a desk whose names are the same
pub seated-like : (lines new : Named) (c : Conn) (old desk : Desk) → IsSeated lines c old → new ≡ lines → desk.names.entries ≡ old.names.entries
    → desk.loose.entries ≡ old.loose.entries → desk.awaited.entries ≡ old.awaited.entries → IsSeated new c desk
seated-like lines new c old desk inv e names loose awaited = record {
  touched = λ n. ap (λ es. is_some (key_of es n)) names ∙ inv.touched n ∙ ap (λ (l : Named). is_touched (line_of l n) c) (sym e);
  at_hand = λ n h. ap (λ es. is_some (key_of es n)) loose ∙ inv.at_hand n (ap (λ (l : Named). is_at_hand c (line_of l n)) (sym e) ∙ h);
  waiting = λ n h. ap (λ es. is_some (key_of es n)) awaited ∙ inv.waiting n (ap (λ (l : Named). is_waiter (line_of l n).waiters c) (sym e) ∙ h);
}

-- a row of what is read off each desk
pub read_at : {X Y : Type 0} (f : X → List Y) (xs : List X) (i : ℕ) (x : X) → slice_get xs i ≡ Some x → slice_index_or (map f xs) i [] ≡ f x
read_at f [] i x e = absurd (no_some e)
read_at f (y ∷ xs) zero x e = ap f (same_some e)
read_at f (y ∷ xs) (suc i) x e = read_at f xs i x e

-- stays where what is read off the new desk is the same
pub put_same : {X Y : Type 0} (f : X → Y) (xs : List X) (i : ℕ) (x y : X) → slice_get xs i ≡ Some x → f y ≡ f x → map f (slice_set xs i y) ≡ map f xs
put_same f [] i x y e same = refl
put_same f (z ∷ xs) zero x y e same = ap (λ w. w ∷ map f xs) (same ∙ sym (ap f (same_some e)))
put_same f (z ∷ xs) (suc i) x y e same = ap (λ l. f z ∷ l) (put_same f xs i x y e same)

-- what is so is so on an Err
pub on_err : {A E : Type 0} {P : Type 0} (r : Result A E) → P → OnErr r P
on_err (Ok a) p = tt
on_err (Err e) p = p

-- a change of one name's line leaves the names of its connection as they should be
pub touched_moved : (old now : List (Name × ℕ)) (lines new : Named) (c : Conn) (n : Name) → ((m : Name) → is_some (key_of old m) ≡ is_touched (line_of lines m) c)
    → ((m : Name) → name_eq n m ≡ false → line_of new m ≡ line_of lines m) → is_some (key_of now n) ≡ is_touched (line_of new n) c
    → ((m : Name) → same n m ≡ false → key_of now m ≡ key_of old m) → (m : Name) → is_some (key_of now m) ≡ is_touched (line_of new m) c
touched_moved old now lines new c n before others own names m = by (name_eq n m) refl
  where
    by : (b : Bool) → name_eq n m ≡ b → is_some (key_of now m) ≡ is_touched (line_of new m) c
    by true e = ap is_some (sym (key_like now n m e)) ∙ own ∙ ap (λ l. is_touched l c) (line_like new n m e)
    by false e = ap is_some (names m (same_names n m ∙ e)) ∙ before m ∙ ap (λ l. is_touched l c) (sym (others m e))
