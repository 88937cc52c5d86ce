-- Counting entry by entry.
use Rattle.std.proofs.Common.{◌≡◌, ℕ, ◌<◌, ◌≤◌, ◌+◌, ◌^◌, ◌++◌, Bool, true, false, List, [], ◌∷◌, drop, take, length, get_or, arith, refl, ap, sym, ◌∙◌, subst, zero, suc, Some, None, Option}
use Rattle.std.proofs.lemmas.List.{drop_all, drop_more}
use Rattle.std.proofs.lemmas.Option.{slice_get_read}
use Rattle.std.specs.List.{AllByRecursion, insert}
use Rattle.std.specs.Option.{option_map_or}
use Rattle.std.specs.Prelude.{if◌then◌else◌, slice_get, slice_index_or, slice_set}
use Rattle.iso_history.specs.declared.entry.Act.{Act}
use Rattle.iso_history.specs.declared.entry.Entry.{Entry}
use Rattle.iso_render.specs.Summary.{StopsAt, answer_of, counts_of, heard, is_answer, is_busy, is_escalation, is_victim, is_wait, is_lower, is_of, noted, number, one_if, tallied}
use Rattle.iso_render.specs.declared.tallies.Answer.{Answer}
use Rattle.iso_render.specs.declared.tallies.Tally.{Tally}
use Rattle.iso_render.specs.declared.totals.Counts.{Counts}

joined : (old one rest total new : ℕ) → new ≡ old + one → old + (one + rest) ≡ total → new + rest ≡ total
joined old one rest total new e f = omega arith

-- the count so far with that of what is left, one entry on
pub number_on : (is : Act → Bool) (es : List Entry) (i : ℕ) (e : Entry) (old new total : ℕ) → i < length es → e ≡ get_or es i e
    → new ≡ old + one_if (is e.act) → old + number is (drop i es) ≡ total → new + number is (drop (i + 1) es) ≡ total
number_on is es i e old new total h g n t =
    let d : drop i es ≡ e ∷ drop (i + 1) es = drop_more es i e h ∙ ap (λ x. x ∷ drop (i + 1) es) (sym g) in
    joined old (one_if (is e.act)) (number is (drop (i + 1) es)) total new n (subst (λ l. old + number is l ≡ total) d t)

-- a count is no greater than the number of entries, one entry on
pub few_on : (b : Bool) (old new i : ℕ) → new ≡ old + one_if b → old ≤ i → new ≤ i + 1
few_on true old new i e h = omega (arith, e, h)
few_on false old new i e h = omega (arith, e, h)

-- the tallies, one entry on
pub tallied_on : (es : List Entry) (i : ℕ) (e : Entry) (old new total : List Tally) → i < length es → e ≡ get_or es i e
    → new ≡ heard old e.act → tallied old (drop i es) ≡ total → tallied new (drop (i + 1) es) ≡ total
tallied_on es i e old new total h g n t =
    let d : drop i es ≡ e ∷ drop (i + 1) es = drop_more es i e h ∙ ap (λ x. x ∷ drop (i + 1) es) (sym g) in
    rw n (subst (λ l. tallied old l ≡ total) d t)

-- no tally counts more than so many
abbrev pub AreFew : ℕ → List Tally → Type 0
AreFew n ts = AllByRecursion (λ t. t.count ≤ n) ts

pub few_more : (n : ℕ) (ts : List Tally) → AreFew n ts → AreFew (n + 1) ts
few_more n [] h = h
few_more n (t ∷ ts) h = let k : t.count ≤ n = h.0 in (omega (arith, k), few_more n ts h.1)

-- where the tallies so far are few, each can count one more
pub few_fit : (n : ℕ) (ts : List Tally) → n < 2 ^ 63 → AreFew n ts → AllByRecursion (λ t. t.count < 2 ^ 63) ts
few_fit n [] f h = h
few_fit n (t ∷ ts) f h = let k : t.count ≤ n = h.0 in (omega (arith, k, f), few_fit n ts f h.1)

abbrev once : Answer → Tally
once a = record { answer = a; count = 1 }

abbrev more : Tally → Tally
more t = record t { count = t.count + 1 }

picked-few : (n : ℕ) (a : Answer) (t : Tally) (ts later : List Tally) (low of : Bool) → AreFew n (t ∷ ts) → AreFew (n + 1) later
    → AreFew (n + 1) (if low then t ∷ later else if of then more t ∷ ts else once a ∷ t ∷ ts)
picked-few n a t ts later true of h r = let k : t.count ≤ n = h.0 in (omega (arith, k), r)
picked-few n a t ts later false true h r = let k : t.count ≤ n = h.0 in (omega (arith, k), few_more n ts h.1)
picked-few n a t ts later false false h r = (omega arith, few_more n (t ∷ ts) h)

noted-few : (n : ℕ) (a : Answer) (ts : List Tally) → AreFew n ts → AreFew (n + 1) (noted a ts)
noted-few n a [] h = (omega arith, h)
noted-few n a (t ∷ ts) h = picked-few n a t ts (noted a ts) (is_lower a t) (is_of a t) h (noted-few n a ts h.1)

option-few : (n : ℕ) (ts : List Tally) (o : Option Answer) → AreFew n ts → AreFew (n + 1) (option_map_or (λ a. noted a ts) o ts)
option-few n ts None h = few_more n ts h
option-few n ts (Some a) h = noted-few n a ts h

pub heard-few : (n : ℕ) (ts : List Tally) (act : Act) → AreFew n ts → AreFew (n + 1) (heard ts act)
heard-few n ts act h = option-few n ts (answer_of act) h

-- the tally at a place counts one more
pub noted_there : (a : Answer) (ts : List Tally) (at : ℕ) (t : Tally) → slice_get ts at ≡ Some t → StopsAt (is_lower a) ts at
    → option_map_or (is_of a) (slice_get ts at) false ≡ true
    → take at ts ++ noted a (drop at ts) ≡ slice_set ts at (record t { count = t.count + 1 })
noted_there a [] at t g l o = cc
noted_there a (x ∷ ts) zero t g l o = let e : x ≡ t = cc in rw (l x refl, o) (ap (λ y. more y ∷ ts) e)
noted_there a (x ∷ ts) (suc at) t g l o = ap (λ ys. x ∷ ys) (noted_there a ts at t g l o)

-- or there is a new tally at the place
pub noted_between : (a : Answer) (ts : List Tally) (at : ℕ) → at ≤ length ts → StopsAt (is_lower a) ts at
    → option_map_or (is_of a) (slice_get ts at) false ≡ false
    → take at ts ++ noted a (drop at ts) ≡ insert ts at (record { answer = a; count = 1 })
noted_between a [] zero h l o = refl
noted_between a [] (suc at) h l o = absurd (omega (arith, h))
noted_between a (x ∷ ts) zero h l o = rw (l x refl, o) refl
noted_between a (x ∷ ts) (suc at) h l o = ap (λ ys. x ∷ ys) (noted_between a ts at (omega (arith, h)) l o)

-- the same for what is seen of a list
pub seen_there : (a : Answer) (ts seen again : List Tally) (at : ℕ) (t : Tally) (b : Bool) → seen ≡ ts → again ≡ ts
    → noted a seen ≡ take at seen ++ noted a (drop at seen) → StopsAt (is_lower a) seen at
    → b ≡ option_map_or (is_of a) (slice_get again at) false → b ≡ true → at < length again → t ≡ slice_index_or ts at t
    → slice_set ts at (record t { count = t.count + 1 }) ≡ noted a ts
seen_there a ts seen again at t b s r n l o e h g =
    let n2 : noted a ts ≡ take at ts ++ noted a (drop at ts) = subst (λ v. noted a v ≡ take at v ++ noted a (drop at v)) s n in
    let l2 : StopsAt (is_lower a) ts at = subst (λ v. StopsAt (is_lower a) v at) s l in
    let o2 : option_map_or (is_of a) (slice_get ts at) false ≡ true = subst (λ v. option_map_or (is_of a) (slice_get v at) false ≡ true) r (sym o ∙ e) in
    let h2 : at < length ts = subst (λ (v : List Tally). at < length v) r h in
    sym (n2 ∙ noted_there a ts at t (slice_get_read ts (length ts) at t refl h2 g) l2 o2)

pub seen_between : (a : Answer) (ts seen again new : List Tally) (at : ℕ) (b : Bool) → seen ≡ ts → again ≡ ts
    → noted a seen ≡ take at seen ++ noted a (drop at seen) → StopsAt (is_lower a) seen at → at ≤ length seen
    → b ≡ option_map_or (is_of a) (slice_get again at) false → b ≡ false → new ≡ insert ts at (record { answer = a; count = 1 })
    → new ≡ noted a ts
seen_between a ts seen again new at b s r n l h o e i =
    let n2 : noted a ts ≡ take at ts ++ noted a (drop at ts) = subst (λ v. noted a v ≡ take at v ++ noted a (drop at v)) s n in
    let l2 : StopsAt (is_lower a) ts at = subst (λ v. StopsAt (is_lower a) v at) s l in
    let o2 : option_map_or (is_of a) (slice_get ts at) false ≡ false = subst (λ v. option_map_or (is_of a) (slice_get v at) false ≡ false) r (sym o ∙ e) in
    let h2 : at ≤ length ts = subst (λ (v : List Tally). at ≤ length v) s h in
    i ∙ sym (n2 ∙ noted_between a ts at h2 l2 o2)

pub heard-few-on : (n : ℕ) (old new : List Tally) (act : Act) → new ≡ heard old act → AreFew n old → AreFew (n + 1) new
heard-few-on n old new act e h = subst (AreFew (n + 1)) (sym e) (heard-few n old act h)

-- at the end nothing is left to count
pub number_all : (is : Act → Bool) (es : List Entry) (i : ℕ) (n : ℕ) → length es ≤ i → n + number is (drop i es) ≡ number is es
    → n ≡ number is es
number_all is es i n h e =
    let d : drop i es ≡ [] = drop_all i es h in
    let f : n + number is [] ≡ number is es = subst (λ l. n + number is l ≡ number is es) d e in
    omega (arith, f)

pub tallied_all : (es : List Entry) (i : ℕ) (ts : List Tally) → length es ≤ i → tallied ts (drop i es) ≡ tallied [] es → ts ≡ tallied [] es
tallied_all es i ts h e =
    let d : drop i es ≡ [] = drop_all i es h in
    subst (λ l. tallied ts l ≡ tallied [] es) d e

abbrev counts_by : ℕ → ℕ → ℕ → ℕ → ℕ → Counts
counts_by a b w x v = record { answers = a; busy = b; waits = w; escalations = x; victims = v }

same_counts : (a b w x v a2 b2 w2 x2 v2 : ℕ) → a ≡ a2 → b ≡ b2 → w ≡ w2 → x ≡ x2 → v ≡ v2
    → counts_by a b w x v ≡ counts_by a2 b2 w2 x2 v2
same_counts a b w x v a2 b2 w2 x2 v2 e f g h i = rw (e, f, g, h, i) refl

pub counts_all : (es : List Entry) (i : ℕ) (c : Counts) → length es ≤ i
    → c.answers + number is_answer (drop i es) ≡ number is_answer es → c.busy + number is_busy (drop i es) ≡ number is_busy es
    → c.waits + number is_wait (drop i es) ≡ number is_wait es → c.escalations + number is_escalation (drop i es) ≡ number is_escalation es
    → c.victims + number is_victim (drop i es) ≡ number is_victim es → c ≡ counts_of es
counts_all es i c h a b w x v =
    let a2 = number_all is_answer es i c.answers h a in
    let b2 = number_all is_busy es i c.busy h b in
    let w2 = number_all is_wait es i c.waits h w in
    let x2 = number_all is_escalation es i c.escalations h x in
    let v2 = number_all is_victim es i c.victims h v in
    same_counts _ _ _ _ _ _ _ _ _ _ a2 b2 w2 x2 v2
