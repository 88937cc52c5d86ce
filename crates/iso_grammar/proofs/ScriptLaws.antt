-- A script comes to one state, or has one first bad line.
use Rattle.std.proofs.Common.{◌≡◌, ℕ, ◌+◌, Bool, true, false, List, [], ◌∷◌, refl, sym, subst, ◌∙◌, ◌⊎◌, inl, inr}
use Rattle.std.specs.Prelude.{MatchBool}
use Rattle.iso_grammar.specs.Script as spec

-- each line is one event or has one fault
pub record IsExact {E F : Type 0} (fits : E → Type 0) (wrong : F → Type 0) : Type 0 where
  pub way : ((e : E) × fits e) ⊎ ((fault : F) × wrong fault)
  pub event : (d e : E) → fits d → fits e → d ≡ e
  pub fault : (a b : F) → wrong a → wrong b → a ≡ b
  pub apart : (e : E) (fault : F) → fits e → wrong fault → ⊥

module _ {S E T F : Type 0} (fits : S → T → E → Type 0) (wrong : S → T → F → Type 0) (advance : S → ℕ → E → S) (skips : T → Bool) (ended : S → Bool) (unended : F) (exact : (s : S) (text : T) → IsExact (fits s text) (wrong s text)) where
  abbrev Reads : S → ℕ → List T → S → Type 0
  Reads = spec.ReadsFrom fits wrong advance skips ended unended

  abbrev Bad : S → ℕ → List T → ℕ → F → Type 0
  Bad = spec.BadFrom fits wrong advance skips ended unended

  abbrev Way : S → ℕ → List T → Type 0
  Way s n texts = ((end : S) × Reads s n texts end) ⊎ ((bad : ℕ) × (fault : F) × Bad s n texts bad fault)

  abbrev ReadsAt : Bool → S → ℕ → T → List T → S → Type 0
  ReadsAt v s n text texts end = MatchBool v (Reads s (n + 1) texts end) ((e : E) × fits s text e × Reads (advance s n e) (n + 1) texts end)

  abbrev BadAt : Bool → S → ℕ → T → List T → ℕ → F → Type 0
  BadAt v s n text texts bad fault =
      MatchBool v (Bad s (n + 1) texts bad fault) (((bad ≡ n) × wrong s text fault) ⊎ ((e : E) × fits s text e × Bad (advance s n e) (n + 1) texts bad fault))

  line_way : (s : S) (n : ℕ) (text : T) (texts : List T) → ((e : E) → Way (advance s n e) (n + 1) texts)
      → ((end : S) × ReadsAt false s n text texts end) ⊎ ((bad : ℕ) × (fault : F) × BadAt false s n text texts bad fault)
  line_way s n text texts rest = elim (exact s text).way [
    | inl x ↦ elim (rest x.0) [
      | inl r ↦ inl (r.0, (x.0, x.1, r.1))
      | inr b ↦ inr (b.0, b.1, inr (x.0, x.1, b.2))
    ]
    | inr w ↦ inr (n, w.0, inl (refl, w.1))
  ]

  -- the lines come to a state, or one of them is bad
  pub one_way : (texts : List T) (s : S) (n : ℕ) → Way s n texts
  one_way [] s n = elim (ended s) as (λ b. ((end : S) × ((b ≡ true) × (end ≡ s))) ⊎ ((bad : ℕ) × (fault : F) × ((b ≡ false) × (bad ≡ n) × (fault ≡ unended)))) [
    | true ↦ inl (s, (refl, refl))
    | false ↦ inr (n, unended, (refl, refl, refl))
  ]
  one_way (text ∷ texts) s n = elim (skips text) as (λ b. ((end : S) × ReadsAt b s n text texts end) ⊎ ((bad : ℕ) × (fault : F) × BadAt b s n text texts bad fault)) [
    | true ↦ one_way texts s (n + 1)
    | false ↦ line_way s n text texts (λ e. one_way texts (advance s n e) (n + 1))
  ]

  true_or_false : (b : Bool) → b ≡ true → b ≡ false → ⊥
  true_or_false b p q = cc

  -- and not both
  pub not_both : (texts : List T) (s : S) (n : ℕ) (end : S) (bad : ℕ) (fault : F) → Reads s n texts end → Bad s n texts bad fault → ⊥
  not_both [] s n end bad fault r b = true_or_false (ended s) r.0 b.0
  not_both (text ∷ texts) s n end bad fault r b = go (skips text) r b (λ t r b. not_both texts t (n + 1) end bad fault r b)
    where
      go : (v : Bool) → ReadsAt v s n text texts end → BadAt v s n text texts bad fault → ((t : S) → Reads t (n + 1) texts end → Bad t (n + 1) texts bad fault → ⊥) → ⊥
      go true r b later = later s r b
      go false r b later = elim b [
        | inl w ↦ (exact s text).apart r.0 fault r.1 w.1
        | inr x ↦ later (advance s n r.0) r.2 (subst (λ e. Bad (advance s n e) (n + 1) texts bad fault) (sym ((exact s text).event r.0 x.0 r.1 x.1)) x.2)
      ]

  -- they come to one state at most
  pub one_meaning : (texts : List T) (s : S) (n : ℕ) (a b : S) → Reads s n texts a → Reads s n texts b → a ≡ b
  one_meaning [] s n a b p q = p.1 ∙ sym q.1
  one_meaning (text ∷ texts) s n a b p q = go (skips text) p q (λ t p q. one_meaning texts t (n + 1) a b p q)
    where
      go : (v : Bool) → ReadsAt v s n text texts a → ReadsAt v s n text texts b → ((t : S) → Reads t (n + 1) texts a → Reads t (n + 1) texts b → a ≡ b) → a ≡ b
      go true p q later = later s p q
      go false p q later = later (advance s n p.0) p.2 (subst (λ e. Reads (advance s n e) (n + 1) texts b) (sym ((exact s text).event p.0 q.0 p.1 q.1)) q.2)

  -- and have one first bad line at most, with one fault
  pub one_bad : (texts : List T) (s : S) (n a b : ℕ) (f h : F) → Bad s n texts a f → Bad s n texts b h → (a ≡ b) × (f ≡ h)
  one_bad [] s n a b f h p q = (p.1 ∙ sym q.1, p.2 ∙ sym q.2)
  one_bad (text ∷ texts) s n a b f h p q = go (skips text) p q (λ t p q. one_bad texts t (n + 1) a b f h p q)
    where
      go : (v : Bool) → BadAt v s n text texts a f → BadAt v s n text texts b h → ((t : S) → Bad t (n + 1) texts a f → Bad t (n + 1) texts b h → (a ≡ b) × (f ≡ h)) → (a ≡ b) × (f ≡ h)
      go true p q later = later s p q
      go false p q later = elim p [
        | inl x ↦ elim q [
          | inl y ↦ (x.0 ∙ sym y.0, (exact s text).fault f h x.1 y.1)
          | inr y ↦ absurd ((exact s text).apart y.0 f y.1 x.1)
        ]
        | inr x ↦ elim q [
          | inl y ↦ absurd ((exact s text).apart x.0 h x.1 y.1)
          | inr y ↦ later (advance s n x.0) x.2 (subst (λ e. Bad (advance s n e) (n + 1) texts b h) (sym ((exact s text).event x.0 y.0 x.1 y.1)) y.2)
        ]
      ]
