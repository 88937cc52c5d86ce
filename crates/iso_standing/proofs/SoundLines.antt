-- The statement of an open line of a sound script is sound.
use Rattle.std.proofs.Common.{◌≡◌, ℕ, Bool, true, false, List, [], ◌∷◌, refl, subst, Some, None, Option, if◌then◌else◌, find}
use Rattle.std.specs.List.{list_all}
use Rattle.std.specs.Option.{option_map_or}
use Rattle.std.specs.Prelude.{◌==◌}
use Rattle.std.proofs.lemmas.Bool.{and_parts}
use Rattle.iso_conduct.specs.Conduct.{is_line_of, statement_at, statement_in, statement_on}
use Rattle.iso_script.specs.Sound.{is_sound_line, is_sound_what}
use Rattle.iso_script.specs.declared.script.Line.{Line}
use Rattle.iso_script.specs.declared.script.What.{What}
use Rattle.iso_sql.specs.Sound.{is_sound_statement}
use Rattle.iso_sql.specs.declared.statement.Statement.{Statement}
use Rattle.iso_types.specs.Ids.{conn_eq}
use Rattle.iso_types.specs.declared.head.Head.{Head}
use Rattle.iso_types.specs.declared.value.Conn.{Conn}

found-all : {A : Type 0} (p q : A → Bool) (xs : List A) (x : A) → list_all q xs ≡ true → find p xs ≡ Some x → q x ≡ true
found-all p q [] x a e = cc
found-all p q (y ∷ ys) x a e = go (p y) e (and_parts _ _ a) (found-all p q ys x)
  where
    go : (b : Bool) → (if b then Some y else find p ys) ≡ Some x → (q y ≡ true) × (list_all q ys ≡ true)
        → (list_all q ys ≡ true → find p ys ≡ Some x → q x ≡ true) → q x ≡ true
    go true h both ih = let same : y ≡ x = cc in subst (λ z. q z ≡ true) same both.0
    go false h both ih = ih both.1 h

module _ (head : Head) (c : Conn) where
  sound-what : (o : Option Conn) (what : What) (free : Bool) (s : Statement) → is_sound_what head o what free ≡ true
      → option_map_or (λ d. conn_eq d c) o false ≡ true → statement_in what ≡ Some s → is_sound_statement head s ≡ true
  sound-what None what free s a b e = cc
  sound-what (Some d) (What.Statement x) free s a b e =
      let same : x ≡ s = cc in subst (λ z. is_sound_statement head z ≡ true) same ((and_parts _ _ a).1)
  sound-what (Some d) What.Expire free s a b e = cc
  sound-what (Some d) What.Snapshot free s a b e = cc

  sound-line : (l : Line) (s : Statement) → is_sound_line head l ≡ true → statement_on c (Some l) ≡ Some s → is_sound_statement head s ≡ true
  sound-line l s a e = go (is_line_of c l) refl e
    where
      go : (b : Bool) → is_line_of c l ≡ b → (if b then statement_in l.what else None) ≡ Some s → is_sound_statement head s ≡ true
      go true k h = sound-what l.conn l.what l.free s a k h
      go false k h = cc

  -- the statement of an open line is sound
  pub sound-at : (lines : List Line) → list_all (is_sound_line head) lines ≡ true → (o : Option ℕ) (s : Statement) → statement_at lines c o ≡ Some s
      → is_sound_statement head s ≡ true
  sound-at lines all None s e = cc
  sound-at lines all (Some n) s e = go (find (λ l. l.number == n) lines) refl e
    where
      go : (o : Option Line) → find (λ l. l.number == n) lines ≡ o → statement_on c o ≡ Some s → is_sound_statement head s ≡ true
      go None k h = cc
      go (Some l) k h = sound-line l s (found-all (λ l. l.number == n) (is_sound_line head) lines l all k) h
