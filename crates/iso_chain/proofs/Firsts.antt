-- Slots, log and units before the first entry stand for the empty history.
use Rattle.std.proofs.Common.{◌≡◌, ℕ, zero, suc, List, [], ◌∷◌, length, map, replicate, refl, sym, ◌∙◌, arith, None, Option, get_or}
use Rattle.std.proofs.lemmas.List.{length-map}
use Rattle.iso_history.specs.After.{start}
use Rattle.iso_history.specs.Recorded.{AllRecorded, Recorded}
use Rattle.iso_history.specs.Versions.{first_tables, first_version}
use Rattle.iso_table.specs.Slots.{new_slot, no_slot}
use Rattle.iso_types.specs.Head.{rows_of, tables}
use Rattle.iso_types.specs.declared.head.Head.{Head}
use Rattle.iso_types.specs.declared.value.TableId.{TableId}
use Rattle.iso_types.specs.declared.value.Value.{Value}
use Rattle.iso_uow.specs.declared.units.Work.{Work}
use Rattle.iso_chain.specs.Firsts.{first_chained}
use Rattle.iso_chain.specs.Slots.{SlotStands}
use Rattle.iso_chain.specs.Stands.{AreChained}
use Rattle.iso_history.proofs.log.Cells.{cell}

first-slot : (rows : List (List Value)) (r : ℕ) → SlotStands (get_or (map new_slot rows) r no_slot) (get_or (map first_version rows) r [])
first-slot [] r = record { face = record { row = tt; live = refl }; head = refl; first = refl }
first-slot (row ∷ rows) zero = record { face = record { row = refl; live = refl }; head = refl; first = refl }
first-slot (row ∷ rows) (suc r) = first-slot rows r

first-slots : (head : Head) (ts : List TableId) (t r : ℕ)
    → SlotStands (cell no_slot (map (λ t. map new_slot (rows_of head t)) ts) t r) (cell [] (map (λ t. map first_version (rows_of head t)) ts) t r)
first-slots head [] t r = first-slot [] r
first-slots head (u ∷ ts) zero r = first-slot (rows_of head u) r
first-slots head (u ∷ ts) (suc t) r = first-slots head ts t r

first-long : (head : Head) (ts : List TableId) (t : ℕ)
    → length (get_or (map (λ t. map new_slot (rows_of head t)) ts) t []) ≡ length (get_or (map (λ t. map first_version (rows_of head t)) ts) t [])
first-long head [] t = refl
first-long head (u ∷ ts) zero = length-map (rows_of head u) new_slot ∙ sym (length-map (rows_of head u) first_version)
first-long head (u ∷ ts) (suc t) = first-long head ts t

nobody : (n k : ℕ) → get_or {A = Option Work} (replicate n None) k None ≡ None
nobody zero k = refl
nobody (suc n) zero = refl
nobody (suc n) (suc k) = nobody n k

pub first-stands : (head : Head) → AreChained (start head) (first_chained head)
first-stands head = record {
  slots = record {
    wide = length-map (tables head) _ ∙ sym (length-map (tables head) _);
    long = λ t. first-long head (tables head) t.0;
    each = λ t r. first-slots head (tables head) t.0 r.0;
  };
  log = record { notes = refl; did = refl; numbers = λ k lt. absurd (omega (arith, lt)) };
  works = λ c lt. nobody (length head.conns) c.0;
  begun = refl;
}

-- no version is pending at first
first-recorded-at : (rows : List (List Value)) (r : ℕ) → Recorded [] [] (get_or (map first_version rows) r [])
first-recorded-at [] r = tt
first-recorded-at (row ∷ rows) zero = ((λ p. absurd (cc)), tt)
first-recorded-at (row ∷ rows) (suc r) = first-recorded-at rows r

first-recorded-in : (head : Head) (ts : List TableId) (t r : ℕ) → Recorded [] [] (cell [] (map (λ t. map first_version (rows_of head t)) ts) t r)
first-recorded-in head [] t r = tt
first-recorded-in head (u ∷ ts) zero r = first-recorded-at (rows_of head u) r
first-recorded-in head (u ∷ ts) (suc t) r = first-recorded-in head ts t r

pub first-recorded : (head : Head) → AllRecorded [] [] (first_tables head)
first-recorded head = record { same = refl; each = λ t r. first-recorded-in head (tables head) t.0 r.0 }
