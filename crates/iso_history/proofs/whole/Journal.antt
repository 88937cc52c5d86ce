-- Each pending version has its record, and each version's row fits, in every legal history whose head's rows fit.
use Rattle.std.proofs.Common.{zero, suc, List, [], ◌∷◌, refl, map, slice_index_or}
use Rattle.iso_history.proofs.Snoc.{along}
use Rattle.iso_history.proofs.log.Logged.{recorded-after, rows-after}
use Rattle.iso_history.proofs.pending.Conns.{no-both}
use Rattle.iso_history.proofs.pending.Starts.{first-at}
use Rattle.iso_history.proofs.whole.Sound.{sound-after, start-sound}
use Rattle.iso_history.proofs.whole.Writers.{premises}
use Rattle.iso_history.specs.After.{after, start, world}
use Rattle.iso_history.specs.Facts.{IsSound, LogSound}
use Rattle.iso_history.specs.Fitted.{RowsFit}
use Rattle.iso_history.specs.Legal.{Allowed, Ground}
use Rattle.iso_history.specs.Recorded.{AllRecorded, Recorded}
use Rattle.iso_history.specs.Versions.{first_version}
use Rattle.iso_history.specs.World.{World}
use Rattle.iso_history.specs.declared.entry.Entry.{Entry}
use Rattle.iso_types.specs.Head.{tables}
use Rattle.iso_types.specs.declared.head.Head.{Head}
use Rattle.iso_types.specs.declared.value.Value.{Value}
use Rattle.std.proofs.lemmas.List.{get_or_past}
use Rattle.std.specs.List.{list_all}
use Rattle.iso_history.proofs.pending.Conns.{table-is}
use Rattle.iso_history.proofs.pending.ReadsGuarded.{first-slots}
use Rattle.iso_history.proofs.pending.Starts.{start-wide}
use Rattle.iso_history.specs.Facts.{TablesThere}
use Rattle.iso_history.specs.Fitted.{AllFit}
use Rattle.iso_history.specs.Versions.{first_tables}
use Rattle.iso_history.specs.World.{Version}
use Rattle.iso_types.specs.Head.{row_fits, rows_of}
use Rattle.iso_types.specs.Ids.{table_eq}
use Rattle.iso_types.specs.declared.head.FirstRow.{FirstRow}
use Rattle.std.proofs.Common.{◌≡◌, ◌<◌, ◌≤◌, ◌⊎◌, inl, inr, ℕ, Bool, true, false, ◌&&◌, arith, subst, length, sym, filter}
use Rattle.iso_types.specs.declared.value.TableId.{TableId}

-- each allowed entry keeps them
pub log_sound-after : (head : Head) (w : World) (e : Entry) → Allowed head w e → IsSound head w → LogSound head w → LogSound head (after head w e)
log_sound-after head w e al s l = record {
  recorded = recorded-after head w e (premises head w s) l.fitted al l.recorded;
  fitted = rows-after head w e (premises head w s) al l.fitted;
}

recorded-first : (rows : List (List Value)) (k : ℕ) → Recorded [] [] (slice_index_or (map first_version rows) k [])
recorded-first [] k = tt
recorded-first (row ∷ rows) zero = ((λ p. absurd (no-both p refl)), tt)
recorded-first (row ∷ rows) (suc k) = recorded-first rows k

start-recorded : (head : Head) → AllRecorded (start head).records (start head).changes (start head).tables
start-recorded head = record {
  same = refl;
  each = λ t r. first-at head (Recorded [] []) tt recorded-first (tables head) t.0 r.0;
}

-- where the first rows fit
pub start-log_sound : (head : Head) → RowsFit head (start head).tables → LogSound head (start head)
start-log_sound head fit = record { recorded = start-recorded head; fitted = fit }

-- so of every legal history
pub log_sound-world : (head : Head) (es : List Entry) → RowsFit head (start head).tables → Ground head es → LogSound head (world head es)
log_sound-world head es fit g = (along head (λ w. IsSound head w × LogSound head w)
    (λ w e al h. (sound-after head w e al h.0, log_sound-after head w e al h.0 h.1)) es (start-sound head, start-log_sound head fit) g).1

-- ---- the first rows

some-all : (a b : Bool) → (a && b) ≡ true → (a ≡ true) × (b ≡ true)
some-all true b h = (refl, h)
some-all false b h = absurd (cc)

module _ (head : Head) (t : TableId) where
  -- the rows of a table fit it
  rows-fit : (rs : List FirstRow) → list_all (λ f. row_fits head f.table f.row) rs ≡ true
      → list_all (row_fits head t) (map (λ f. f.row) (filter (λ f. table_eq f.table t) rs)) ≡ true
  rows-fit [] h = refl
  rows-fit (f ∷ rs) h = go (rows-fit rs (some-all (row_fits head f.table f.row) _ h).1) (table_eq f.table t) refl
    where
      here : row_fits head f.table f.row ≡ true
      here = (some-all (row_fits head f.table f.row) _ h).0

      go : list_all (row_fits head t) (map (λ f. f.row) (filter (λ f. table_eq f.table t) rs)) ≡ true → (b : Bool) → table_eq f.table t ≡ b
          → list_all (row_fits head t) (map (λ f. f.row) (filter (λ f. table_eq f.table t) (f ∷ rs))) ≡ true
      go ih false e = rw e ih
      go ih true e =
          let is : f.table ≡ t = table-is f.table t e in
          let own : row_fits head t f.row ≡ true = subst (λ (u : TableId). row_fits head u f.row ≡ true) is (some-all (row_fits head f.table f.row) _ h).0 in
          rw e (rw own ih)

  slot-fit : (rows : List (List Value)) (k : ℕ) → list_all (row_fits head t) rows ≡ true → AllFit head t (slice_index_or (map first_version rows) k [])
  slot-fit [] k h = tt
  slot-fit (row ∷ rows) zero h = ((some-all (row_fits head t row) _ h).0, tt)
  slot-fit (row ∷ rows) (suc k) h = slot-fit rows k (some-all (row_fits head t row) _ h).1

first-many : (head : Head) → length (first_tables head) ≡ length head.tables
unfolding TablesThere
first-many head = start-wide head

-- the first rows fit, where each row of the head fits its table
pub first-fitted : (head : Head) → list_all (λ f. row_fits head f.table f.row) head.rows ≡ true → RowsFit head (start head).tables
first-fitted head h t r = go (places t.0 (length head.tables))
  where
    places : (a b : ℕ) → (a < b) ⊎ (b ≤ a)
    places a b = grind arith

    go : (t.0 < length head.tables) ⊎ (length head.tables ≤ t.0) → AllFit head t (slice_index_or (slice_index_or (first_tables head) t.0 []) r.0 [])
    go (inl lt) = subst (λ (l : List (List Version)). AllFit head t (slice_index_or l r.0 [])) (sym (first-slots head t lt))
        (slot-fit head t (rows_of head t) r.0 (rows-fit head t head.rows h))
    go (inr le) =
        let long : length (first_tables head) ≡ length head.tables = first-many head in
        let past : length (first_tables head) ≤ t.0 = omega (arith, long, le) in
        subst (λ (l : List (List Version)). AllFit head t (slice_index_or l r.0 [])) (sym (get_or_past (first_tables head) t.0 [] past)) tt
