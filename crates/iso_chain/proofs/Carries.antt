-- The log carries the rows of the history with one more entry.
use Rattle.std.proofs.Common.{◌≡◌, ◌∙◌, List, [], ◌∷◌, ◌++◌, Option, ap, refl, sym, append-nil}
use Rattle.std.proofs.lemmas.List.{append_assoc, map-append}
use Rattle.std.specs.Prelude.{map}
use Rattle.iso_history.specs.Versions.{change_of}
use Rattle.iso_history.specs.Versions.Change.{Keeps}
use Rattle.iso_history.specs.declared.entry.Act.{Act}
use Rattle.iso_history.specs.declared.entry.Entry.{Entry}
use Rattle.iso_record.specs.declared.record.Record.{Record}
use Rattle.iso_types.specs.declared.value.Value.{Value}
use Rattle.iso_chain.specs.Carried.{CarriesRows, rows_by, rows_made}

rows-more : (es : List Entry) (e : Entry) → rows_made (es ++ e ∷ []) ≡ rows_made es ++ rows_by (change_of e.act)
rows-more [] e = append-nil (rows_by (change_of e.act))
rows-more (x ∷ es) e = ap (λ l. rows_by (change_of x.act) ++ l) (rows-more es e)
    ∙ sym (append_assoc (rows_by (change_of x.act)) (rows_made es) (rows_by (change_of e.act)))

-- an entry with a record
pub carries-more : (log : List Record) (es : List Entry) (x : Record) (e : Entry) → CarriesRows log es
    → x.after ∷ [] ≡ rows_by (change_of e.act) → CarriesRows (log ++ x ∷ []) (es ++ e ∷ [])
carries-more log es x e is row =
    map-append (λ (n : Record). n.after) log (x ∷ []) ∙ ap (λ l. l ++ x.after ∷ []) is ∙ ap (λ l. rows_made es ++ l) row ∙ sym (rows-more es e)

-- an entry without one
pub carries-same : (log : List Record) (es : List Entry) (e : Entry) → CarriesRows log es → [] ≡ rows_by (change_of e.act)
    → CarriesRows log (es ++ e ∷ [])
carries-same log es e is none = is ∙ sym (append-nil (rows_made es)) ∙ ap (λ l. rows_made es ++ l) none ∙ sym (rows-more es e)

-- the new log carries what the old one does, and then what this act adds
abbrev pub RowsMore : List Record → List Record → Act → Type 0
RowsMore old new a = map (λ (n : Record). n.after) new ≡ map (λ (n : Record). n.after) old ++ rows_by (change_of a)

-- then it carries the rows of the history with its entry
pub carried-more : (old new : List Record) (es : List Entry) (e : Entry) → CarriesRows old es → RowsMore old new e.act → CarriesRows new (es ++ e ∷ [])
carried-more old new es e is more = more ∙ ap (λ l. l ++ rows_by (change_of e.act)) is ∙ sym (rows-more es e)

-- an act without a record
pub no-row : (log : List Record) (a : Act) → rows_by (change_of a) ≡ [] → RowsMore log log a
no-row log a none = sym (append-nil (map (λ (n : Record). n.after) log)) ∙ ap (λ l. map (λ (n : Record). n.after) log ++ l) (sym none)

-- an act with one
pub one-row : (log : List Record) (x : Record) (a : Act) → x.after ∷ [] ≡ rows_by (change_of a) → RowsMore log (log ++ x ∷ []) a
one-row log x a row = map-append (λ (n : Record). n.after) log (x ∷ []) ∙ ap (λ l. map (λ (n : Record). n.after) log ++ l) row
