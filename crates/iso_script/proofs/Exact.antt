-- Each list of bytes is read as one script or has one first bad line, and never both.
use Rattle.std.proofs.Common.{◌≡◌, ℕ, List, refl, sym, ap, ◌∙◌, ◌⊎◌, inl, inr}
use Rattle.iso_grammar.specs.Lex.{is_skipped}
use Rattle.iso_grammar.specs.Lines.{lines}
use Rattle.iso_grammar.proofs.ScriptLaws as laws
use Rattle.iso_script.specs.declared.fault.LineCause.{LineCause}
use Rattle.iso_script.specs.declared.reader.Reader.{Reader}
use Rattle.iso_script.specs.declared.script.Script.{Script}
use Rattle.iso_script.specs.Advance.{advance}
use Rattle.iso_script.specs.Reading.{bad, fits, is_ended, reads, start, unended, wrong}
use Rattle.iso_script.proofs.ReadLaws.{line-exact}

pub one_way : (bytes : List ℕ) → ((s : Script) × reads bytes s) ⊎ ((n : ℕ) × (why : LineCause) × bad bytes n why)
one_way bytes = elim (laws.one_way fits wrong advance is_skipped is_ended unended line-exact (lines bytes) start 1) [
  | inl r ↦ inl (r.0.script, (r.0, r.1, refl))
  | inr b ↦ inr (b.0, b.1, b.2)
]

pub not_both : (bytes : List ℕ) (s : Script) (n : ℕ) (why : LineCause) → reads bytes s → bad bytes n why → ⊥
not_both bytes s n why r b =
    laws.not_both fits wrong advance is_skipped is_ended unended line-exact (lines bytes) start 1 r.0 n why r.1 b

pub one_script : (bytes : List ℕ) (s t : Script) → reads bytes s → reads bytes t → s ≡ t
one_script bytes s t p q =
    sym p.2 ∙ ap (λ (r : Reader). r.script) (laws.one_meaning fits wrong advance is_skipped is_ended unended line-exact (lines bytes) start 1 p.0 q.0 p.1 q.1) ∙ q.2

pub one_bad : (bytes : List ℕ) (m n : ℕ) (v w : LineCause) → bad bytes m v → bad bytes n w → (m ≡ n) × (v ≡ w)
one_bad bytes m n v w p q = laws.one_bad fits wrong advance is_skipped is_ended unended line-exact (lines bytes) start 1 m n v w p q
