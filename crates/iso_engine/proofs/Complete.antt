-- What came of the bytes that were taken answers for all that the source told; over streams that did not fail a run is complete, but
-- where memory was wanting.
use Rattle.std.proofs.Common.{◌≡◌, ℕ, ◌≤◌, ◌+◌, ◌⊎◌, inl, inr, List, [], ◌++◌, length, sym, ap, ◌∙◌, subst, Option, Some, None, length-append, arith}
use Rattle.std.specs.Io.KnownBytes.{Appends, Consumes, IsAtEnd}
use Rattle.std.proofs.lemmas.List.{append-nil}
use Rattle.iso_conduct.proofs.Wholes.{whole}
use Rattle.iso_engine.proofs.Stops.{limited, one-of, unstopped}
use Rattle.iso_engine.specs.Stopping.{status_of}
use Rattle.iso_engine.specs.declared.job.Aim.{Aim}
use Rattle.iso_engine.specs.declared.job.Aim.TheVariants.{Count, Run}
use Rattle.iso_engine.specs.declared.job.Course.{Course}
use Rattle.iso_engine.specs.Job.{IsAnswered, IsBadWith, IsComplete, IsJudged, IsMixed, IsOutcome, IsRunOf, IsRunWhole, IsSaid, IsSaidWhole, IsScript, IsTold, RefusedWith, TellsRun, Telling, Refuses, mixing, told_by}
use Rattle.iso_history.specs.declared.entry.Entry.{Entry}
use Rattle.iso_io.specs.Moves.{AppendsPart}
use Rattle.iso_generate.specs.Generated.{generated}
use Rattle.iso_render.specs.Outputs.{count_text, output_text}
use Rattle.iso_script.proofs.Exact.{not_both, one_script}
use Rattle.iso_script.specs.Reading.{reads}
use Rattle.iso_script.specs.declared.script.Script.{Script}

-- a source at its end has given all that it told
read-all : (a b : Option (List ℕ)) (bytes told : List ℕ) → Consumes a b bytes → IsAtEnd b → a ≡ Some told → (bytes ≡ told) × (b ≡ Some [])
read-all None b bytes told c e h = absurd (cc)
read-all (Some x) None bytes told c e h = absurd c
read-all (Some x) (Some y) bytes told c e h =
    let same : x ≡ told = cc in (sym (append-nil bytes) ∙ ap (λ l. bytes ++ l) (sym e) ∙ sym c ∙ same, ap (λ l. Some l) e)

-- what was taken is no longer than what was told
pub taken-within : (a b : Option (List ℕ)) (bytes told : List ℕ) → Consumes a b bytes → a ≡ Some told → length bytes ≤ length told
taken-within None b bytes told c h = absurd (cc)
taken-within (Some x) None bytes told c h = absurd c
taken-within (Some x) (Some y) bytes told c h =
    let same : x ≡ told = cc in
    let l : length told ≡ length bytes + length y = ap length (sym same ∙ c) ∙ length-append bytes y in
    omega (arith, l)

-- an outcome of the bytes that were judged is one of those that were taken
pub moved : (Told : Telling) (xs ys : List ℕ) (left : Option (List ℕ)) (status : ℕ) (history : List Entry) (old new : Option (List ℕ)) → xs ≡ ys
    → IsOutcome Told xs left status history old new → IsOutcome Told ys left status history old new
moved Told xs ys left status history old new e o = subst (λ b. IsOutcome Told b left status history old new) e o

-- what was not read is neither judged nor refused
unjudged : (status : ℕ) → (status ≡ 3) ⊎ (status ≡ 5) → (status ≡ 0) ⊎ ((status ≡ 4) ⊎ (status ≡ 6)) → ⊥
unjudged s (inl a) (inl b) = let q : 3 ≡ 0 = sym a ∙ b in omega arith
unjudged s (inl a) (inr (inl b)) = let q : 3 ≡ 4 = sym a ∙ b in omega arith
unjudged s (inl a) (inr (inr b)) = let q : 3 ≡ 6 = sym a ∙ b in omega arith
unjudged s (inr a) (inl b) = let q : 5 ≡ 0 = sym a ∙ b in omega arith
unjudged s (inr a) (inr (inl b)) = let q : 5 ≡ 4 = sym a ∙ b in omega arith
unjudged s (inr a) (inr (inr b)) = let q : 5 ≡ 6 = sym a ∙ b in omega arith

unrefused : (status : ℕ) → (status ≡ 3) ⊎ (status ≡ 5) → status ≡ 2 → ⊥
unrefused s (inl a) b = let q : 3 ≡ 2 = sym a ∙ b in omega arith
unrefused s (inr a) b = let q : 5 ≡ 2 = sym a ∙ b in omega arith

-- nor is a run refused
picked-unrefused : (history : List Entry) (status : ℕ) → status ≡ status_of history → status ≡ 2
    → (status_of history ≡ 0) ⊎ ((status_of history ≡ 5) ⊎ (status_of history ≡ 6)) → ⊥
picked-unrefused history s e z (inl a) = let q : 2 ≡ 0 = sym z ∙ e ∙ a in omega arith
picked-unrefused history s e z (inr (inl a)) = let q : 2 ≡ 5 = sym z ∙ e ∙ a in omega arith
picked-unrefused history s e z (inr (inr a)) = let q : 2 ≡ 6 = sym z ∙ e ∙ a in omega arith

told-unrefused : (text : List ℕ) (history : List Entry) (status : ℕ) (old new : Option (List ℕ)) → TellsRun text history status old new → status ≡ 2 → ⊥
told-unrefused text history status old new (inl t) z = picked-unrefused history status t.0 z (one-of history)
told-unrefused text history status old new (inr (inl t)) z = let q : 2 ≡ 4 = sym z ∙ t.0 in omega arith
told-unrefused text history status old new (inr (inr t)) z = let q : 2 ≡ 5 = sym z ∙ t.0 in omega arith

run-unrefused : (course : Course) (script : Script) (status : ℕ) (history : List Entry) (old new : Option (List ℕ)) → IsTold course script status history old new → status ≡ 2 → ⊥
run-unrefused course script status history old new (inl r) z = told-unrefused (output_text course.output script history) history status old new r.1 z
run-unrefused course script status history old new (inr r) z = let q : 2 ≡ 5 = sym z ∙ r.1 in omega arith

-- what was taken of all that a source told answers for all of it
module _ (a left : Option (List ℕ)) (all bytes : List ℕ) (taken : Consumes a left bytes) (told : a ≡ Some all) where
  pub all-read : IsAtEnd left → (bytes ≡ all) × (left ≡ Some [])
  all-read end = read-all a left bytes all taken end told

  no-more : length bytes ≤ length all
  no-more = taken-within a left bytes all taken told

  pub refuses-all : (text : List ℕ) → RefusedWith bytes left text → Refuses all text
  refuses-all text (inl l) = inl (let n : length bytes ≡ 1048577 = l.0 in omega (arith, n, no-more), l.1)
  refuses-all text (inr b) = let same = (all-read b.0).0 in
      inr (subst (λ x. length x ≤ 1048576) same b.1, subst (λ x. IsBadWith x text) same b.2)

  -- bytes that were read to their end as a script are not to be refused
  pub never-refused : IsAtEnd left → length bytes ≤ 1048576 → (script : Script) → reads bytes script → (text : List ℕ) → Refuses all text → ⊥
  never-refused end few script is text (inl l) = let same : bytes ≡ all = (all-read end).0 in
      let n : length bytes ≡ length all = ap length same in let many : 1048577 ≤ length all = l.0 in omega (arith, few, n, many)
  never-refused end few script is text (inr b) = not_both all script b.1.0 b.1.1 (subst (λ x. reads x script) (all-read end).0 is) b.1.2

-- and so does what came of it
module _ (course : Course) (a left old new : Option (List ℕ)) (all bytes : List ℕ) (status : ℕ) (history : List Entry)
    (taken : Consumes a left bytes) (told : a ≡ Some all) (o : IsOutcome (IsTold course) bytes left status history old new) where
  judged-ended : IsOutcome (IsTold course) bytes left status history old new → IsJudged status history → left ≡ Some []
  judged-ended (inl r) (inl began) = absurd (began r.3)
  judged-ended (inl r) (inr (inl z)) = absurd (let q : 2 ≡ 0 = sym r.0 ∙ z in omega arith)
  judged-ended (inl r) (inr (inr (inl z))) = absurd (let q : 2 ≡ 4 = sym r.0 ∙ z in omega arith)
  judged-ended (inl r) (inr (inr (inr z))) = absurd (let q : 2 ≡ 6 = sym r.0 ∙ z in omega arith)
  judged-ended (inr (inl u)) (inl began) = absurd (began u.1)
  judged-ended (inr (inl u)) (inr z) = absurd (unjudged status u.0 z)
  judged-ended (inr (inr r)) j = (all-read a left all bytes taken told r.0).1

  headline-of : IsOutcome (IsTold course) bytes left status history old new → (script : Script) → reads all script → (history ≡ [] → ⊥)
      → IsTold course script status history old new
  headline-of (inl r) script is began = absurd (began r.3)
  headline-of (inr (inl u)) script is began = absurd (began u.1)
  headline-of (inr (inr r)) script is began =
      subst (λ s. IsTold course s status history old new)
      (one_script all r.2 script (subst (λ b. reads b r.2) (all-read a left all bytes taken told r.0).0 r.3) is) r.4

  refused-of : IsOutcome (IsTold course) bytes left status history old new → status ≡ 2 → (text : List ℕ) × Refuses all text × AppendsPart old new text
  refused-of (inl r) z = (r.1, refuses-all a left all bytes taken told r.1 r.2, r.4)
  refused-of (inr (inl u)) z = absurd (unrefused status u.0 z)
  refused-of (inr (inr r)) z = absurd (run-unrefused course r.2 status history old new r.4 z)

  exact-of : IsOutcome (IsTold course) bytes left status history old new → (text : List ℕ) → Refuses all text → (status ≡ 2) ⊎ ((status ≡ 3) ⊎ (status ≡ 5))
  exact-of (inl r) text f = inl r.0
  exact-of (inr (inl u)) text f = inr u.0
  exact-of (inr (inr r)) text f = absurd (never-refused a left all bytes taken told r.0 r.1 r.2 r.3 text f)

  pub answered : IsAnswered course all left status history old new
  answered = record { ended = judged-ended o; headline = headline-of o; refused = refused-of o; exact = exact-of o }

-- a run whose text is written whole is whole
module _ (course : Course) (script : Script) (status : ℕ) (history : List Entry) (old new : Option (List ℕ)) (sink : status ≡ 4 → ⊥) where
  abbrev Ends : Type 0
  Ends = IsRunWhole course script status history old new ⊎ (status ≡ 5)

  picked-whole : IsRunOf course.way script history → status ≡ status_of history → Appends old new (output_text course.output script history)
      → (status_of history ≡ 0) ⊎ ((status_of history ≡ 5) ⊎ (status_of history ≡ 6)) → Ends
  picked-whole r e a (inl z) = inl (a, inl (e ∙ z, whole script history r.legal r.finished (unstopped script.head history z)))
  picked-whole r e a (inr (inl f)) = inr (e ∙ f)
  picked-whole r e a (inr (inr s)) = inl (a, inr (e ∙ s, limited history s))

  pub told-whole : IsTold course script status history old new → Ends
  told-whole (inl (r, inl t)) = picked-whole r t.0 t.1 (one-of history)
  told-whole (inl (r, inr (inl t))) = absurd (sink t.0)
  told-whole (inl (r, inr (inr t))) = inr t.0
  told-whole (inr t) = inr t.1

-- a text that the sink did not keep back is said whole
pub said-whole : (text : List ℕ) (status : ℕ) (history : List Entry) (old new : Option (List ℕ)) → (status ≡ 4 → ⊥) → IsSaid text status history old new
    → IsSaidWhole text status old new ⊎ (status ≡ 5)
said-whole text status history old new sink (h, inl s) = inl s
said-whole text status history old new sink (h, inr (inl s)) = absurd (sink s.0)
said-whole text status history old new sink (h, inr (inr s)) = inr s.0

-- the script that a seed makes is run and told whole
pub mixed-whole : (seed count status : ℕ) (history : List Entry) (old new : Option (List ℕ)) → IsMixed seed count status history old new
    → (script : Script) → reads (generated seed count) script → (status ≡ 4 → ⊥) → IsRunWhole mixing script status history old new ⊎ (status ≡ 5)
mixed-whole seed count status history old new (inl m) script is sink =
    told-whole mixing script status history old new sink
    (subst (λ s. IsTold mixing s status history old new) (one_script (generated seed count) m.0 script m.1 is) m.2)
mixed-whole seed count status history old new (inr m) script is sink = inr m.1

-- what an aim makes of a script is complete where neither stream kept anything back
module _ (script : Script) (status : ℕ) (history : List Entry) (left old new : Option (List ℕ)) (end : left ≡ Some []) (sink : status ≡ 4 → ⊥) where
  pub told-complete : (aim : Aim) → told_by aim script status history old new → IsComplete aim script status history left old new ⊎ (status ≡ 5)
  told-complete (Run course) t = elim (told-whole course script status history old new sink t) [ inl w ↦ inl (end, w) | inr m ↦ inr m ]
  told-complete Count t = elim (said-whole (count_text script) status history old new sink t) [ inl w ↦ inl (end, w) | inr m ↦ inr m ]

-- a script that a source told, and that neither stream kept back, is complete
pub complete : (aim : Aim) (a left old new : Option (List ℕ)) (all bytes : List ℕ) (status : ℕ) (history : List Entry)
    → Consumes a left bytes → a ≡ Some all → IsOutcome (told_by aim) bytes left status history old new → (script : Script) → IsScript all script
    → (status ≡ 3 → ⊥) → (status ≡ 4 → ⊥) → IsComplete aim script status history left old new ⊎ (status ≡ 5)
complete aim a left old new all bytes status history taken told (inl r) script is source sink =
    absurd (elim (refuses-all a left all bytes taken told r.1 r.2) [
      | inl l ↦ let few : length all ≤ 1048576 = is.0 in let many : 1048577 ≤ length all = l.0 in omega (arith, few, many)
      | inr b ↦ not_both all script b.1.0 b.1.1 is.1 b.1.2
    ])
complete aim a left old new all bytes status history taken told (inr (inl u)) script is source sink =
    elim u.0 [ inl f ↦ absurd (source f) | inr m ↦ inr m ]
complete aim a left old new all bytes status history taken told (inr (inr r)) script is source sink =
    let same = all-read a left all bytes taken told r.0 in
    told-complete script status history left old new same.1 sink aim
    (subst (λ s. told_by aim s status history old new) (one_script all r.2 script (subst (λ b. reads b r.2) same.0 r.3) is.1) r.4)
