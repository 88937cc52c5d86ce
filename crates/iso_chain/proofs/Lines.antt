-- Walking along a unit's own chain.
use Rattle.std.proofs.Common.{◌≡◌, ◌<◌, ℕ, List, [], ◌∷◌, length, refl, ap, sym, Some, None, Option, subst}
use Rattle.std.specs.Prelude.{IfSome}
use Rattle.iso_record.specs.declared.record.Record.{Record}
use Rattle.iso_table.specs.declared.slot.Slot.{Slot}
use Rattle.iso_chain.specs.Lines.{AreWithin, HasLine, IsLine}
use Rattle.iso_chain.specs.Logs.{record_at}
use Rattle.iso_chain.specs.Slots.{slot_in, slots_of}
use Rattle.iso_chain.specs.Writes.{cleared, released, with_slot}
use Rattle.iso_chain.proofs.Commits.{within-set}

-- there is one such line alone
line-one : (log : List Record) (at : Option ℕ) (ns ms : List ℕ) → IsLine log at ns → IsLine log at ms → ns ≡ ms
line-one log at [] [] a b = refl
line-one log at [] (m ∷ ms) a b = absurd (cc)
line-one log at (n ∷ ns) [] a b = absurd (cc)
line-one log at (n ∷ ns) (m ∷ ms) (p, q, l, r) (s, t, u, v) =
    let same : n ≡ m = cc in
    rw same (ap (λ (z : List ℕ). m ∷ z) (line-one log (record_at log m).prev_unit ns ms
    (subst (λ (z : ℕ). IsLine log (record_at log z).prev_unit ns) same r) v))

-- the line goes on from here, and releasing what is left of it gives the whole
pub record GoesOn (log : List Record) (at : Option ℕ) (tables whole : List (List Slot)) : Type 0 where
  pub line : List ℕ
  pub is : IsLine log at line
  pub within : AreWithin log tables line
  pub released : released log line tables ≡ whole

pub goes-first : (log : List Record) (tables : List (List Slot)) (at : Option ℕ) → HasLine log tables at → (ns : List ℕ) → IsLine log at ns
    → GoesOn log at tables (released log ns tables)
goes-first log tables at (ms, is, within) ns k = record {
  line = ns;
  is = k;
  within = subst (AreWithin log tables) (line-one log at ms ns is k) within;
  released = refl;
}

-- the record x that is next: it and its slot are there, the one after it is lower, and the line goes on from there
pub record NextOf (log : List Record) (n : ℕ) (x : Record) (tables whole : List (List Slot)) : Type 0 where
  pub number : n < length log
  pub table : x.table.0 < length tables
  pub rid : x.rid.0 < length (slots_of tables x.table)
  pub falls : IfSome x.prev_unit (λ j. j < n)
  pub rest : (next : List (List Slot)) → next ≡ with_slot tables x.table x.rid (cleared (slot_in tables x.table x.rid)) → GoesOn log x.prev_unit next whole

pub next-of : (log : List Record) (at : Option ℕ) (n : ℕ) (x : Record) (tables whole : List (List Slot)) → at ≡ Some n → x ≡ record_at log n
    → GoesOn log at tables whole → NextOf log n x tables whole
next-of log at n x tables whole e is goes = subst (λ (z : Record). NextOf log n z tables whole) (sym is) (go goes.line goes.is goes.within goes.released)
  where
    go : (line : List ℕ) → IsLine log at line → AreWithin log tables line → released log line tables ≡ whole → NextOf log n (record_at log n) tables whole
    go [] k within all = absurd (cc)
    go (m ∷ ms) (p, q, l, r) (t, s, rest) all =
        let same : m ≡ n = cc in
        subst (λ (z : ℕ). NextOf log z (record_at log z) tables whole) same (record {
          number = q;
          table = t;
          rid = s;
          falls = l;
          rest = λ next f. subst (λ (g : List (List Slot)). GoesOn log (record_at log m).prev_unit g whole) (sym f)
              (record { line = ms; is = r; within = within-set log tables (record_at log m).table (record_at log m).rid _ ms rest; released = all });
        })

pub goes-none : (log : List Record) (at : Option ℕ) (tables whole : List (List Slot)) → at ≡ None → GoesOn log at tables whole → tables ≡ whole
goes-none log at tables whole e goes = go goes.line goes.is goes.released
  where
    go : (line : List ℕ) → IsLine log at line → released log line tables ≡ whole → tables ≡ whole
    go [] is all = all
    go (m ∷ ms) is all = let k = is.0 in absurd (cc)
