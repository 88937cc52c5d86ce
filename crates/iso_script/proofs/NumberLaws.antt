-- The numbers of a script's lines rise.
use Rattle.std.proofs.Common.{◌≡◌, ℕ, ◌+◌, ◌<◌, Bool, true, false, List, [], ◌∷◌, ◌++◌, refl, ap, subst, ◌∙◌, arith}
use Rattle.std.specs.Prelude.{MatchBool, ◌&&◌, nat_lt}
use Rattle.std.specs.List.{list_all}
use Rattle.std.proofs.lemmas.Bool.{lt-ltb, ltb-true}
use Rattle.std.proofs.lemmas.List.Folds.{list_all-append}
use Rattle.iso_grammar.specs.Lex.{is_skipped}
use Rattle.iso_grammar.specs.Lines as text
use Rattle.iso_script.specs.Numbered.{rises_above}
use Rattle.iso_script.specs.declared.script.Line.{Line}
use Rattle.iso_script.specs.declared.script.Script.{Script}
use Rattle.iso_script.specs.declared.event.Event.{Event}
use Rattle.iso_script.specs.declared.event.Event.TheVariants as event
use Rattle.iso_script.specs.declared.reader.Reader.{Reader}
use Rattle.iso_script.specs.Advance.{advance}
use Rattle.iso_script.specs.Reading.{fits, ReadsFrom, reads, start}

both : (a b : Bool) → (a && b) ≡ true → (a ≡ true) × (b ≡ true)
both true b e = (refl, e)
both false b e = absurd cc

-- all lines stand before this one
abbrev are_below : ℕ → List Line → Bool
are_below n ls = list_all (λ l. nat_lt l.number n) ls

rises-snoc : (k : ℕ) (ls : List Line) (l : Line) → nat_lt k l.number ≡ true → are_below l.number ls ≡ true → rises_above k ls ≡ true → rises_above k (ls ++ l ∷ []) ≡ true
rises-snoc k [] l lt below e = ap (λ v. v && true) lt
rises-snoc k (m ∷ ls) l lt below e =
    let b = both (nat_lt m.number l.number) (are_below l.number ls) below in
    let r = both (nat_lt k m.number) (rises_above m.number ls) e in
    ap (λ v. v && rises_above m.number (ls ++ l ∷ [])) r.0 ∙ rises-snoc m.number ls l b.0 b.1 r.1

still-below : (n : ℕ) (ls : List Line) → are_below n ls ≡ true → are_below (n + 1) ls ≡ true
still-below n [] e = refl
still-below n (l ∷ ls) e =
    let b = both (nat_lt l.number n) (are_below n ls) e in
    let lt : l.number < n = ltb-true l.number n b.0 in
    ap (λ v. v && are_below (n + 1) ls) (lt-ltb l.number (n + 1) (omega (arith, lt))) ∙ still-below n ls b.1

-- what holds before the line with this number
record Rising (s : Reader) (n : ℕ) : Type 0 where
  above : 0 < n
  rises : rises_above 0 s.script.lines ≡ true
  below : are_below n s.script.lines ≡ true

next : (s : Reader) (n : ℕ) → Rising s n → Rising s (n + 1)
next s n h = record { above = omega arith; rises = h.rises; below = still-below n s.script.lines h.below }

step_rising : (s : Reader) (n : ℕ) (e : Event) → Rising s n → Rising (advance s n e) (n + 1)
step_rising s n event.First h = record { above = omega arith; rises = h.rises; below = still-below n s.script.lines h.below }
step_rising s n (event.Config x) h = record { above = omega arith; rises = h.rises; below = still-below n s.script.lines h.below }
step_rising s n (event.Table d) h = record { above = omega arith; rises = h.rises; below = still-below n s.script.lines h.below }
step_rising s n (event.Index d) h = record { above = omega arith; rises = h.rises; below = still-below n s.script.lines h.below }
step_rising s n (event.Row f) h = record { above = omega arith; rises = h.rises; below = still-below n s.script.lines h.below }
step_rising s n (event.Connect d) h = record { above = omega arith; rises = h.rises; below = still-below n s.script.lines h.below }
step_rising s n event.Begin h = record { above = omega arith; rises = h.rises; below = still-below n s.script.lines h.below }
step_rising s n (event.Asked c free w) h =
    let line : Line = record { number = n; conn = c; free = free; what = w } in
    record {
      above = omega arith;
      rises = rises-snoc 0 s.script.lines line (lt-ltb 0 n h.above) h.below h.rises;
      below = list_all-append (λ l. nat_lt l.number (n + 1)) s.script.lines (line ∷ []) ∙ ap (λ v. v && (nat_lt n (n + 1) && true)) (still-below n s.script.lines h.below) ∙ ap (λ v. v && true) (lt-ltb n (n + 1) (omega arith));
    }
step_rising s n event.End h = record { above = omega arith; rises = h.rises; below = still-below n s.script.lines h.below }

lines_rise : (texts : List (List ℕ)) (s : Reader) (n : ℕ) (end : Reader) → Rising s n → ReadsFrom s n texts end → rises_above 0 end.script.lines ≡ true
lines_rise [] s n end h r = ap (λ (z : Reader). rises_above 0 z.script.lines) r.1 ∙ h.rises
lines_rise (line ∷ texts) s n end h r = go (is_skipped line) r (λ t h r. lines_rise texts t (n + 1) end h r)
  where
    go : (v : Bool) → MatchBool v (ReadsFrom s (n + 1) texts end) ((e : Event) × fits s line e × ReadsFrom (advance s n e) (n + 1) texts end)
        → ((t : Reader) → Rising t (n + 1) → ReadsFrom t (n + 1) texts end → rises_above 0 end.script.lines ≡ true) → rises_above 0 end.script.lines ≡ true
    go true r later = later s (next s n h) r
    go false r later = later (advance s n r.0) (step_rising s n r.0 h) r.2

-- the lines of a script that is read rise
pub reads-rising : (bytes : List ℕ) (s : Script) → reads bytes s → rises_above 0 s.lines ≡ true
reads-rising bytes s r =
    subst (λ (z : Script). rises_above 0 z.lines ≡ true) r.2 (lines_rise (text.lines bytes) start 1 r.0 (record { above = omega arith; rises = refl; below = refl }) r.1)
