-- Slots, log and units after the other entries: those that change none of them, and those that begin, end and mark units.
use Rattle.std.proofs.Common.{◌≡◌, ◌≢◌, ◌<◌, ◌+◌, ◌⊎◌, inl, inr, ℕ, Bool, true, false, not, List, [], ◌∷◌, length, map, refl, ap, sym, ◌∙◌, arith, Some, None, Option, ℤ, subst, get_or-set_same, get_or-set_other}
use Rattle.std.specs.Option.{option_map}
use Rattle.std.specs.Prelude.{◌==◌, filter, if◌then◌else◌, unwrap_or}
use Rattle.std.proofs.Math.ListN.{length-set}
use Rattle.std.proofs.lemmas.Bool.Decides.{nat_tests}
use Rattle.iso_history.specs.After.{after}
use Rattle.iso_history.specs.Linked.{first_made}
use Rattle.iso_history.specs.Makers.{by_agent, by_dispatcher}
use Rattle.iso_history.specs.Marks.{backed, mark_of, marked}
use Rattle.iso_history.specs.Records.{count, left}
use Rattle.iso_history.specs.World.{MarkAt, Note, World, at_conn}
use Rattle.iso_history.specs.declared.entry.Act.{Act}
use Rattle.iso_history.specs.declared.entry.Act.TheVariants.{Back, Dispatch, Mark, Rollback}
use Rattle.iso_types.specs.Ids.{text_eq}
use Rattle.iso_types.specs.declared.head.Head.{Head}
use Rattle.iso_types.specs.declared.value.Conn.{Conn}
use Rattle.iso_uow.specs.Book.{new_work, with_marks, with_work, work_at}
use Rattle.iso_uow.specs.Savepoints.{down_to, floor_of, is_named, set_again}
use Rattle.iso_uow.specs.declared.marks.Savepoint.{Savepoint}
use Rattle.iso_uow.specs.declared.units.Work.{Work}
use Rattle.iso_chain.specs.Stands.{AreChained, Chained}
use Rattle.iso_chain.specs.Works.{WorksStand, savepoint_of, work_of_unit}
use Rattle.iso_chain.specs.Writes.{own_work}
use Rattle.iso_chain.proofs.Commits.{works-none}
use Rattle.iso_chain.proofs.Common.{own-is}
use Rattle.iso_chain.proofs.Records.{length-log}

-- an entry that changes no version, no record, no unit and no mark
pub kept-chained : (w v : World) (p : Chained) → v.tables ≡ w.tables → v.records ≡ w.records → v.changes ≡ w.changes → v.unit ≡ w.unit → v.marks ≡ w.marks
    → v.begun ≡ w.begun → AreChained w p → AreChained v p
kept-chained w v p a b c d e f s = record {
  slots = rw a s.slots;
  log = rw (b, c) s.log;
  works = rw (b, d, e) s.works;
  begun = s.begun ∙ sym f;
}

-- the connection's unit is another, and no other one changes
works-at : (works : List (Option Work)) (notes : List Note) (unit : Conn → Option ℕ) (marks : Conn → List MarkAt) (c : Conn) (work : Option Work) (u : Option ℕ)
    (ms : List MarkAt) → WorksStand works notes unit marks → work ≡ option_map (work_of_unit notes ms) u
    → WorksStand (with_work works c work) notes (at_conn unit c u) (at_conn marks c ms)
works-at works notes unit marks c work u ms s e d lt = go (same d.0 c.0)
  where
    same : (a b : ℕ) → (a ≡ b) ⊎ (a ≢ b)
    same a b = grind arith

    within : d.0 < length works
    within = rw length-set at lt

    go : (d.0 ≡ c.0) ⊎ (d.0 ≢ c.0)
        → work_at (with_work works c work) d ≡ option_map (work_of_unit notes (at_conn marks c ms d)) (at_conn unit c u d)
    go (inl k) =
        let test : (d.0 == c.0) ≡ true = grind (arith, nat_tests) in
        rw (test, k) (get_or-set_same works c.0 work None (subst (λ (z : ℕ). z < length works) k within) ∙ e)
    go (inr ne) =
        let test : (d.0 == c.0) ≡ false = grind (arith, nat_tests) in
        rw test (get_or-set_other works c.0 d.0 work None ne ∙ s d within)

-- a unit that ends with nothing left
pub rollback-chained : (h : Head) (w : World) (p : Chained) (c : Conn) (code : ℤ) (reason : ℕ) → AreChained w p
    → AreChained (after h w (by_agent c (Rollback code reason))) (record p { book = record p.book { works = with_work p.book.works c None } })
rollback-chained h w p c code reason s = record {
  slots = s.slots;
  log = s.log;
  works = works-none p.book.works w.records w.unit w.marks c s.works;
  begun = s.begun;
}

pub ended-chained : (h : Head) (w : World) (p : Chained) (c : Conn) → AreChained w p
    → AreChained (after h w (by_agent c Act.Ended)) (record p { book = record p.book { works = with_work p.book.works c None } })
ended-chained h w p c s = record {
  slots = s.slots;
  log = s.log;
  works = works-none p.book.works w.records w.unit w.marks c s.works;
  begun = s.begun;
}

-- savepoints are those of the world
pub floor-is : (marks : List MarkAt) (name : List ℕ) → floor_of (map savepoint_of marks) name ≡ mark_of marks name
floor-is [] name = refl
floor-is (k ∷ ks) name = go (text_eq k.name name) refl (floor-is ks name)
  where
    go : (b : Bool) → text_eq k.name name ≡ b → floor_of (map savepoint_of ks) name ≡ mark_of ks name
        → floor_of (map savepoint_of (k ∷ ks)) name ≡ mark_of (k ∷ ks) name
    go true e ih = rw e refl
    go false e ih = rw e ih

without : (marks : List MarkAt) (name : List ℕ)
    → filter (λ s. not (is_named name s)) (map savepoint_of marks) ≡ map savepoint_of (filter (λ k. not (text_eq k.name name)) marks)
without [] name = refl
without (k ∷ ks) name = go (text_eq k.name name) refl (without ks name)
  where
    go : (b : Bool) → text_eq k.name name ≡ b
        → filter (λ s. not (is_named name s)) (map savepoint_of ks) ≡ map savepoint_of (filter (λ k. not (text_eq k.name name)) ks)
        → filter (λ s. not (is_named name s)) (map savepoint_of (k ∷ ks)) ≡ map savepoint_of (filter (λ k. not (text_eq k.name name)) (k ∷ ks))
    go true e ih = rw e ih
    go false e ih = rw e (ap (λ (l : List Savepoint). savepoint_of k ∷ l) ih)

pub set-is : (marks : List MarkAt) (name : List ℕ) (at : ℕ) → set_again (map savepoint_of marks) name at ≡ map savepoint_of (marked marks name at)
set-is marks name at = ap (λ (l : List Savepoint). record { name = name; at = at } ∷ l) (without marks name)

pub down-is : (marks : List MarkAt) (name : List ℕ) → down_to name (map savepoint_of marks) ≡ map savepoint_of (backed marks name)
down-is [] name = refl
down-is (k ∷ ks) name = go (text_eq k.name name) refl (down-is ks name)
  where
    go : (b : Bool) → text_eq k.name name ≡ b → down_to name (map savepoint_of ks) ≡ map savepoint_of (backed ks name)
        → down_to name (map savepoint_of (k ∷ ks)) ≡ map savepoint_of (backed (k ∷ ks) name)
    go true e ih = rw e refl
    go false e ih = rw e ih

-- the unit with these savepoints
marks-chained : (w : World) (p : Chained) (c : Conn) (u : ℕ) (ms : List MarkAt) (ss : List Savepoint) → AreChained w p → c.0 < length p.book.works
    → w.unit c ≡ Some u
    → ss ≡ map savepoint_of ms
    → WorksStand (with_work p.book.works c (Some (with_marks (own_work p c) ss))) w.records w.unit (at_conn w.marks c ms)
marks-chained w p c u ms ss s lt e is d within =
    works-at p.book.works w.records w.unit w.marks c (Some (with_marks (own_work p c) ss)) (Some u) ms s.works work d within
    ∙ ap (option_map (work_of_unit w.records (at_conn w.marks c ms d))) (stays d)
  where
    work : Some (with_marks (own_work p c) ss) ≡ Some (work_of_unit w.records ms u)
    work = rw (own-is p w c u s lt e, is) refl

    conn : ℕ → Conn
    conn k = record { 0 = k }

    stays : (d : Conn) → at_conn w.unit c (Some u) d ≡ w.unit d
    stays d = go (d.0 == c.0) refl
      where
        go : (b : Bool) → (d.0 == c.0) ≡ b → (if b then Some u else w.unit d) ≡ w.unit d
        go true k = let same : d.0 ≡ c.0 = grind (arith, nat_tests) in let is : d ≡ c = ap conn same in sym e ∙ ap w.unit (sym is)
        go false k = refl

pub mark-chained : (h : Head) (w : World) (p : Chained) (c : Conn) (u : ℕ) (name : List ℕ) → AreChained w p → c.0 < length p.book.works → w.unit c ≡ Some u
    → AreChained (after h w (by_agent c (Mark name)))
    (record p {
      book = record p.book {
        works = with_work p.book.works c
            (Some (with_marks (own_work p c) (set_again (own_work p c).marks name (length p.log))));
      };
    })
mark-chained h w p c u name s lt e = record {
  slots = s.slots;
  log = s.log;
  works = marks-chained w p c u (marked (w.marks c) name (count w)) _ s lt e
      (rw (own-is p w c u s lt e, length-log p.log w s.log) (set-is (w.marks c) name (count w)));
  begun = s.begun;
}

pub back-chained : (h : Head) (w : World) (p : Chained) (c : Conn) (u : ℕ) (name : List ℕ) → AreChained w p → c.0 < length p.book.works → w.unit c ≡ Some u
    → AreChained (after h w (by_agent c (Back name)))
    (record p { book = record p.book { works = with_work p.book.works c (Some (with_marks (own_work p c) (down_to name (own_work p c).marks))) } })
back-chained h w p c u name s lt e = record {
  slots = s.slots;
  log = s.log;
  works = marks-chained w p c u (backed (w.marks c) name) _ s lt e (rw (own-is p w c u s lt e) (down-is (w.marks c) name));
  begun = s.begun;
}

-- a unit that begins: no record has its number yet, and a connection without a unit has no savepoint
pub begin-chained : (h : Head) (w : World) (p : Chained) (line : ℕ) (c : Conn) → AreChained w p → c.0 < length p.book.works → w.unit c ≡ None → w.marks c ≡ []
    → first_made w.records (w.begun + 1) ≡ None → left w.records (w.begun + 1) ≡ []
    → AreChained (after h w (by_dispatcher (Dispatch line c)))
    (record p { book = record { begun = p.book.begun + 1; works = with_work p.book.works c (Some (new_work (p.book.begun + 1))) } })
begin-chained h w p line c s lt none bare first nothing = record {
  slots = s.slots;
  log = s.log;
  works = λ d within. works-at p.book.works w.records w.unit w.marks c (Some (new_work (p.book.begun + 1))) (Some (unwrap_or (w.unit c) (w.begun + 1)))
      (w.marks c) s.works work d within
      ∙ ap (λ ms. option_map (work_of_unit w.records ms) (at_conn w.unit c (Some (unwrap_or (w.unit c) (w.begun + 1))) d)) (stays d);
  begun = rw none (ap (λ n. n + 1) s.begun);
}
  where
    work : Some (new_work (p.book.begun + 1)) ≡ Some (work_of_unit w.records (w.marks c) (unwrap_or (w.unit c) (w.begun + 1)))
    work = rw (none, s.begun, bare, first, nothing) refl

    conn : ℕ → Conn
    conn k = record { 0 = k }

    stays : (d : Conn) → at_conn w.marks c (w.marks c) d ≡ w.marks d
    stays d = go (d.0 == c.0) refl
      where
        go : (b : Bool) → (d.0 == c.0) ≡ b → (if b then w.marks c else w.marks d) ≡ w.marks d
        go true k = let same : d.0 ≡ c.0 = grind (arith, nat_tests) in let is : d ≡ c = ap conn same in ap w.marks (sym is)
        go false k = refl

-- a statement of a unit that is open already
pub resume-chained : (h : Head) (w : World) (p : Chained) (line : ℕ) (c : Conn) (u : ℕ) → AreChained w p → w.unit c ≡ Some u
    → AreChained (after h w (by_dispatcher (Dispatch line c))) p
resume-chained h w p line c u s e = record {
  slots = s.slots;
  log = s.log;
  works = λ d within. s.works d within ∙ ap (option_map (work_of_unit w.records (w.marks d))) (sym (stays d));
  begun = s.begun ∙ rw e refl;
}
  where
    conn : ℕ → Conn
    conn k = record { 0 = k }

    stays : (d : Conn) → at_conn w.unit c (Some (unwrap_or (w.unit c) (w.begun + 1))) d ≡ w.unit d
    stays d = go (d.0 == c.0) refl
      where
        go : (b : Bool) → (d.0 == c.0) ≡ b → (if b then Some (unwrap_or (w.unit c) (w.begun + 1)) else w.unit d) ≡ w.unit d
        go true k = let same : d.0 ≡ c.0 = grind (arith, nat_tests) in let is : d ≡ c = ap conn same in rw (is, e) refl
        go false k = refl
