-- The records of the log are those of the world.
use Rattle.std.proofs.Common.{◌≡◌, ◌<◌, ℕ, true, List, [], ◌∷◌, length, ap, sym, ◌∙◌, arith, subst}
use Rattle.std.proofs.lemmas.List.{get_or-map, length-map}
use Rattle.iso_history.specs.Changes.{change_at, no_change}
use Rattle.iso_history.specs.Recorded.{LeadsTo, Recorded}
use Rattle.iso_history.specs.Records.{no_note, note_of}
use Rattle.iso_history.specs.Versions.{head_record}
use Rattle.iso_history.specs.World.{Note, Version, World}
use Rattle.iso_record.specs.declared.record.Record.{Record}
use Rattle.iso_chain.specs.Logs.{LogStands, no_record, note_of_record, record_at}

-- as many records
pub length-log : (log : List Record) (w : World) → LogStands log w.records w.changes → length log ≡ length w.records
length-log log w s = simp length-map at (ap length s.notes)

pub noted : (log : List Record) (w : World) (n : ℕ) → LogStands log w.records w.changes → n < length log
    → note_of_record (record_at log n) ≡ note_of w.records n
noted log w n s lt = sym (get_or-map note_of_record log n no_record no_note lt) ∙ ap (λ (l : List Note). note_of l n) s.notes

pub changed : (log : List Record) (w : World) (n : ℕ) → LogStands log w.records w.changes → n < length log → (record_at log n).change ≡ change_at w.changes n
changed log w n s lt = sym (get_or-map (λ (x : Record). x.change) log n no_record no_change lt) ∙ ap (λ l. change_at l n) s.did

-- the log's record of a pending version has what is below it
pub record Backs (log : List Record) (v : Version) (vs : List Version) : Type 0 where
  pub within : v.number < length log
  pub unit : (record_at log v.number).unit ≡ v.unit
  pub prev_row : (record_at log v.number).prev_row ≡ head_record vs
  pub change : LeadsTo (record_at log v.number).change vs v.row

abbrev pub AllBack : List Record → List Version → Type 0
AllBack log [] = Unit {0}
AllBack log (v ∷ vs) = (v.pending ≡ true → Backs log v vs) × AllBack log vs

pub all-back : (log : List Record) (w : World) (vs : List Version) → LogStands log w.records w.changes → Recorded w.records w.changes vs → AllBack log vs
all-back log w [] s h = tt
all-back log w (v ∷ vs) s h = (
  (λ p. let r = h.0 p in
      let same : length log ≡ length w.records = length-log log w s in
      let lt : v.number < length log = omega (arith, same, r.within) in
      let note = noted log w v.number s lt in
      record {
        within = lt;
        unit = ap (λ z. z.unit) note ∙ r.unit;
        prev_row = ap (λ z. z.prev_row) note ∙ r.prev_row;
        change = subst (λ z. LeadsTo z vs v.row) (sym (changed log w v.number s lt)) r.change;
      }),
  all-back log w vs s h.1,
)
