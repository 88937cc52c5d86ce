-- Voices, and what passes saw of one history.
use Rattle.std.proofs.Common.{◌≡◌, ◌≢◌, ℕ, zero, suc, ◌+◌, ◌<◌, ◌≤◌, Bool, true, false, ◌||◌, not, cond, eqb, eq-eqb, ne_eqb, List, [], ◌∷◌, ◌++◌, length, drop, sym, refl, ap, ◌∙◌, subst, ⊎_elim, ◌⊎◌, inl, inr, arith, append_assoc, append-nil, length-append}
use Rattle.std.proofs.lemmas.List.Elements.{filter-append}
use mathlib.Core.Logic.{dite}
use native.Mathlib.Decide.{ℕ_discrete}
use Rattle.iso_history.specs.Voices.{voice_of}
use Rattle.iso_history.specs.declared.entry.Entry.{Entry}
use Rattle.iso_latch.specs.Seen.{has, own, Mine, Continues, below, without}
use Rattle.iso_latch.specs.Rule.{Known}

pub or_true : (a b : Bool) → (a || b) ≡ true → (a ≡ true) ⊎ (b ≡ true)
or_true true b e = inl refl
or_true false b e = inr e

pub or_false : (a b : Bool) → a ≡ false → b ≡ false → (a || b) ≡ false
or_false a b e f = λ i. e i || f i

pub not_both : {b : Bool} → b ≡ true → b ≡ false → ⊥
not_both e f = cc

pub has-append : (x : ℕ) (vs ws : List ℕ) → has x (vs ++ ws) ≡ (has x vs || has x ws)
has-append x [] ws = refl
has-append x (v ∷ vs) ws = ap (λ b. eqb x v || b) (has-append x vs ws) ∙ assoc (eqb x v) (has x vs) (has x ws) where
  assoc : (a b c : Bool) → (a || (b || c)) ≡ ((a || b) || c)
  assoc true b c = refl
  assoc false b c = refl

pub own-append : (vs : List ℕ) (xs ys : List Entry) → own vs (xs ++ ys) ≡ own vs xs ++ own vs ys
own-append vs xs ys = filter-append (λ (e : Entry). has (voice_of e) vs) xs ys

step_fewer : (e : Entry) (xs ys : List Entry) (a b : Bool) → (b ≡ true → a ≡ true) → cond a (e ∷ xs) xs ≡ [] → (xs ≡ [] → ys ≡ []) → cond b (e ∷ ys) ys ≡ []
step_fewer e xs ys true b sub none r = absurd (let h : e ∷ xs ≡ [] = none in cc)
step_fewer e xs ys false true sub none r = absurd (not_both (sub refl) refl)
step_fewer e xs ys false false sub none r = r none

-- fewer voices have no more entries
pub own_fewer : (vs ws : List ℕ) → ((x : ℕ) → has x ws ≡ true → has x vs ≡ true) → (es : List Entry) → own vs es ≡ [] → own ws es ≡ []
own_fewer vs ws sub [] none = refl
own_fewer vs ws sub (e ∷ es) none = step_fewer e (own vs es) (own ws es) (has (voice_of e) vs) (has (voice_of e) ws) (sub (voice_of e)) none (own_fewer vs ws sub es)

-- entries of other voices
pub foreign : (vs ws : List ℕ) → ((x : ℕ) → has x vs ≡ true → has x ws ≡ false) → (es : List Entry) → Mine vs es → own ws es ≡ []
foreign vs ws apart [] m = refl
foreign vs ws apart (e ∷ es) m = ap (λ b. cond b (e ∷ own ws es) (own ws es)) (apart (voice_of e) m.0) ∙ foreign vs ws apart es m.1

pub own_mine : (vs : List ℕ) (es : List Entry) → Mine vs es → own vs es ≡ es
own_mine vs [] m = refl
own_mine vs (e ∷ es) m = ap (λ b. cond b (e ∷ own vs es) (own vs es)) m.0 ∙ ap (λ l. e ∷ l) (own_mine vs es m.1)

pub mine_known : (seats : ℕ) (vs : List ℕ) → ((x : ℕ) → has x vs ≡ true → x < seats) → (es : List Entry) → Mine vs es → Known seats es
mine_known seats vs in_range [] m = tt
mine_known seats vs in_range (e ∷ es) m = (in_range (voice_of e) m.0, mine_known seats vs in_range es m.1)

pub known-append : (seats : ℕ) (xs ys : List Entry) → Known seats xs → Known seats ys → Known seats (xs ++ ys)
known-append seats [] ys a b = b
known-append seats (x ∷ xs) ys a b = (a.0, known-append seats xs ys a.1 b)

pub known_right : (seats : ℕ) (xs ys : List Entry) → Known seats (xs ++ ys) → Known seats ys
known_right seats [] ys k = k
known_right seats (x ∷ xs) ys k = known_right seats xs ys k.1

-- who has all voices has all entries
pub own_all : (seats : ℕ) (vs : List ℕ) → ((x : ℕ) → x < seats → has x vs ≡ true) → (es : List Entry) → Known seats es → own vs es ≡ [] → es ≡ []
own_all seats vs full [] k none = refl
own_all seats vs full (e ∷ es) k none = absurd (let h : e ∷ own vs es ≡ [] = sym (ap (λ b. cond b (e ∷ own vs es) (own vs es)) (full (voice_of e) k.0)) ∙ none in cc)

-- of two beginnings of one history the shorter begins the longer
pub prefixes : (a ra b rb : List Entry) → a ++ ra ≡ b ++ rb → length a ≤ length b → (d : List Entry) × (b ≡ a ++ d) × (ra ≡ d ++ rb)
prefixes [] ra b rb e le = (b, refl, e)
prefixes (x ∷ a) ra [] rb e le = absurd (omega arith)
prefixes (x ∷ a) ra (y ∷ b) rb e le = let first : y ≡ x = cc in let more : a ++ ra ≡ b ++ rb = cc in let r = prefixes a ra b rb more (omega arith) in (r.0, (λ i. first i ∷ r.1 i), r.2)

pub no_more : (vs : List ℕ) (xs ys : List Entry) → own vs (xs ++ ys) ≡ [] → (own vs xs ≡ []) × (own vs ys ≡ [])
no_more vs [] ys e = (refl, e)
no_more vs (x ∷ xs) ys e = split (has (voice_of x) vs) (own vs xs) (own vs ys) (no_more vs xs ys) (own vs (xs ++ ys)) refl e where
  split : (b : Bool) (l m : List Entry) → (own vs (xs ++ ys) ≡ [] → (l ≡ []) × (m ≡ [])) → (n : List Entry) → own vs (xs ++ ys) ≡ n → cond b (x ∷ n) n ≡ [] → (cond b (x ∷ l) l ≡ []) × (m ≡ [])
  split true l m r n is e = absurd (let h : x ∷ n ≡ [] = e in cc)
  split false l m r n is e = r (is ∙ e)

pub continues_own : (vs : List ℕ) (seen log : List Entry) → Continues vs seen log → own vs log ≡ own vs seen
continues_own vs seen log c = ap (own vs) c.1 ∙ (own-append vs seen c.0 ∙ (ap (λ l. own vs seen ++ l) c.2 ∙ append-nil (own vs seen)))

-- the history grows by entries of others
pub continues-append : (vs : List ℕ) (seen log new : List Entry) → Continues vs seen log → own vs new ≡ [] → Continues vs seen (log ++ new)
continues-append vs seen log new c none = (c.0 ++ new, ap (λ l. l ++ new) c.1 ∙ append_assoc seen c.0 new, own-append vs c.0 new ∙ (λ i. c.2 i ++ none i))

pub continues_fewer : (vs ws : List ℕ) (seen log : List Entry) → ((x : ℕ) → has x ws ≡ true → has x vs ≡ true) → Continues vs seen log → Continues ws seen log
continues_fewer vs ws seen log sub c = (c.0, c.1, own_fewer vs ws sub c.0 c.2)

pub continues_self : (vs : List ℕ) (log : List Entry) → Continues vs log log
continues_self vs log = ([], sym (append-nil log), refl)

step_both : (e : Entry) (l m n : List Entry) (a b : Bool) → (l ≡ [] → m ≡ [] → n ≡ []) → cond a (e ∷ l) l ≡ [] → cond b (e ∷ m) m ≡ [] → cond (a || b) (e ∷ n) n ≡ []
step_both e l m n true b r x y = absurd (let h : e ∷ l ≡ [] = x in cc)
step_both e l m n false true r x y = absurd (let h : e ∷ m ≡ [] = y in cc)
step_both e l m n false false r x y = r x y

-- a view that took in another's
pub own_both : (vs ws : List ℕ) (es : List Entry) → own vs es ≡ [] → own ws es ≡ [] → own (vs ++ ws) es ≡ []
own_both vs ws [] a b = refl
own_both vs ws (e ∷ es) a b = ap (λ c. cond c (e ∷ own (vs ++ ws) es) (own (vs ++ ws) es)) (has-append (voice_of e) vs ws) ∙ step_both e (own vs es) (own ws es) (own (vs ++ ws) es) (has (voice_of e) vs) (has (voice_of e) ws) (own_both vs ws es) a b

-- the voices below n
pub has_below : (n x : ℕ) → has x (below n) ≡ true → x < n
has_below zero x e = absurd (not_both e refl)
has_below (suc n) x e = ⊎_elim (λ h. let r = has_below n x h in omega arith) (λ h. dite (ℕ_discrete x n) (λ is. omega arith) (λ no. absurd (not_both h (or_false _ _ (ne_eqb x n no) refl)))) (or_true _ _ (sym (has-append x (below n) (n ∷ [])) ∙ e))

pub length-below : (n : ℕ) → length (below n) ≡ n
length-below zero = refl
length-below (suc n) = let r = length-below n in omega (arith, length-append (below n) (n ∷ []))

-- the voice that is given away
pub has_without : (x y : ℕ) (vs : List ℕ) → has y (without x vs) ≡ true → (has y vs ≡ true) × (y ≢ x)
has_without x y [] e = absurd (not_both e refl)
has_without x y (v ∷ vs) e = dite (ℕ_discrete x v)
    (λ is. let r = has_without x y vs (sym (ap (λ b. has y (cond (not b) (v ∷ without x vs) (without x vs))) (eq-eqb x v is)) ∙ e) in (ap (λ b. eqb y v || b) r.0 ∙ right (eqb y v), r.1))
    (λ no. ⊎_elim (λ h. (ap (λ b. b || has y vs) h, λ z. no (same y v h z)))
    (λ h. let r = has_without x y vs h in (ap (λ b. eqb y v || b) r.0 ∙ right (eqb y v), r.1))
    (or_true _ _ (sym (ap (λ b. has y (cond (not b) (v ∷ without x vs) (without x vs))) (ne_eqb x v no)) ∙ e))) where
      right : (b : Bool) → (b || true) ≡ true
      right true = refl
      right false = refl

      same : (y v : ℕ) → eqb y v ≡ true → y ≡ x → x ≡ v
      same y v h z = dite (ℕ_discrete y v) (λ e. sym z ∙ e) (λ n. absurd (not_both h (ne_eqb y v n)))

pub length-without : (x : ℕ) (vs : List ℕ) → length (without x vs) ≤ length vs
length-without x [] = omega arith
length-without x (v ∷ vs) = let r = length-without x vs in pick (not (eqb x v)) r where
  pick : (b : Bool) → length (without x vs) ≤ length vs → length (cond b (v ∷ without x vs) (without x vs)) ≤ length (v ∷ vs)
  pick true r = omega arith
  pick false r = omega arith

pub length_without_one : (x : ℕ) (vs : List ℕ) → has x vs ≡ true → length (without x vs) + 1 ≤ length vs
length_without_one x [] e = absurd (not_both e refl)
length_without_one x (v ∷ vs) e = dite (ℕ_discrete x v)
    (λ is. let r = length-without x vs in subst (λ b. length (cond (not b) (v ∷ without x vs) (without x vs)) + 1 ≤ length (v ∷ vs)) (sym (eq-eqb x v is)) (omega arith))
    (λ no. let r = length_without_one x vs (sym (ap (λ b. b || has x vs) (ne_eqb x v no)) ∙ e) in subst (λ b. length (cond (not b) (v ∷ without x vs) (without x vs)) + 1 ≤ length (v ∷ vs)) (sym (ne_eqb x v no)) (omega arith))

or_right : (b : Bool) → (b || true) ≡ true
or_right true = refl
or_right false = refl

-- the voices that are kept
pub has_kept : (x y : ℕ) (vs : List ℕ) → has y vs ≡ true → y ≢ x → has y (without x vs) ≡ true
has_kept x y [] e ne = e
has_kept x y (v ∷ vs) e ne = dite (ℕ_discrete x v)
    (λ is. ap (λ b. has y (cond (not b) (v ∷ without x vs) (without x vs))) (eq-eqb x v is) ∙ has_kept x y vs (sym (ap (λ b. b || has y vs) (ne_eqb y v (λ z. ne (z ∙ sym is)))) ∙ e) ne)
    (λ no. ap (λ b. has y (cond (not b) (v ∷ without x vs) (without x vs))) (ne_eqb x v no) ∙ ⊎_elim (λ h. ap (λ b. b || has y (without x vs)) h) (λ h. ap (λ b. eqb y v || b) (has_kept x y vs h ne) ∙ or_right (eqb y v)) (or_true _ _ e))

pub some_of : (x : ℕ) (vs : List ℕ) → has x vs ≡ true → 0 < length vs
some_of x [] e = absurd (not_both e refl)
some_of x (v ∷ vs) e = omega arith

pub has_left : (x : ℕ) (vs ws : List ℕ) → has x vs ≡ true → has x (vs ++ ws) ≡ true
has_left x vs ws e = has-append x vs ws ∙ ap (λ b. b || has x ws) e

pub has_right : (x : ℕ) (vs ws : List ℕ) → has x ws ≡ true → has x (vs ++ ws) ≡ true
has_right x vs ws e = has-append x vs ws ∙ (ap (λ b. has x vs || b) e ∙ or_right (has x vs))

pub has_self : (x : ℕ) → has x (x ∷ []) ≡ true
has_self x = ap (λ b. b || false) (eq-eqb x x refl)

pub below_has : (n x : ℕ) → x < n → has x (below n) ≡ true
below_has zero x l = absurd (omega arith)
below_has (suc n) x l = dite (ℕ_discrete x n) (λ is. has_right x (below n) (n ∷ []) (ap (λ b. b || false) (eq-eqb x n is))) (λ no. has_left x (below n) (n ∷ []) (below_has n x (omega arith)))

pub own_full : (seats : ℕ) (vs : List ℕ) → ((x : ℕ) → x < seats → has x vs ≡ true) → (es : List Entry) → Known seats es → own vs es ≡ es
own_full seats vs full [] k = refl
own_full seats vs full (e ∷ es) k = ap (λ b. cond b (e ∷ own vs es) (own vs es)) (full (voice_of e) k.0) ∙ ap (λ l. e ∷ l) (own_full seats vs full es k.1)

drop_past : (xs ys : List Entry) → drop (length xs) (xs ++ ys) ≡ ys
drop_past [] ys = refl
drop_past (x ∷ xs) ys = drop_past xs ys

-- new entries of the pass's voices are its own, each once
pub own_grown : (vs : List ℕ) (seen new log : List Entry) → log ≡ seen ++ new → Mine vs new → own vs log ≡ own vs seen ++ drop (length seen) log
own_grown vs seen new log e m = ap (own vs) e ∙ (own-append vs seen new ∙ ap (λ l. own vs seen ++ l) (own_mine vs new m ∙ (sym (drop_past seen new) ∙ ap (drop (length seen)) (sym e))))
