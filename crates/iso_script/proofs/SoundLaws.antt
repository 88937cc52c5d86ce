-- A script that is read is sound, whether or not this stage of the project runs it.
use Rattle.std.proofs.Common.{◌≡◌, ℕ, ◌+◌, ◌≤◌, Bool, true, false, cond, List, [], ◌∷◌, ◌++◌, length, Option, Some, None, refl, sym, ap, subst, ◌∙◌, inl, inr, length-append, arith}
use Rattle.std.specs.Prelude.{MatchBool, filter, nat_le}
use Rattle.std.specs.List.{list_all}
use Rattle.std.proofs.lemmas.Bool.{and_from, leb-false, lt-ltb}
use Rattle.std.proofs.lemmas.List.Elements.{filter-append}
use Rattle.iso_types.specs.Head.{is_conn}
use Rattle.iso_types.specs.declared.head.Head.{Head}
use Rattle.iso_types.specs.declared.head.Isolation.{Isolation}
use Rattle.iso_types.specs.declared.value.Conn.{Conn}
use Rattle.iso_grammar.specs.declared.fault.Checked.{Checked}
use Rattle.iso_grammar.specs.declared.token.Token.{Token}
use Rattle.iso_grammar.specs.Faults.{checked}
use Rattle.iso_grammar.specs.Lex.{is_skipped, tokens}
use Rattle.iso_grammar.specs.Lines as text
use Rattle.iso_sql.specs.Sound.{is_sound_statement}
use Rattle.iso_sql.specs.Statements as sql
use Rattle.iso_sql.specs.declared.statement.Statement.{Statement}
use Rattle.iso_sql.proofs.SoundFacts.{least_none}
use Rattle.iso_sql.proofs.SoundStatements.{statement-sound}
use Rattle.iso_script.specs.declared.script.Line.{Line}
use Rattle.iso_script.specs.declared.script.Script.{Script}
use Rattle.iso_script.specs.declared.script.What.{What}
use Rattle.iso_script.specs.declared.script.What.TheVariants as what
use Rattle.iso_script.specs.declared.event.Event.{Event}
use Rattle.iso_script.specs.declared.event.Event.TheVariants as event
use Rattle.iso_script.specs.declared.event.Setting.{Setting}
use Rattle.iso_script.specs.declared.reader.Place.{Place}
use Rattle.iso_script.specs.declared.reader.Place.TheVariants as place
use Rattle.iso_script.specs.declared.reader.Reader.{Reader}
use Rattle.iso_script.specs.declared.words.ColumnWords.{ColumnWords}
use Rattle.iso_script.specs.declared.words.IndexWords.{IndexWords}
use Rattle.iso_script.specs.declared.words.SettingWords.{SettingWords}
use Rattle.iso_script.specs.Advance.{advance, with_head, with_setting}
use Rattle.iso_script.specs.Events.{configured, connected, declared, expired, is_snapshot, pictured, plain, snapshots, stated}
use Rattle.iso_script.specs.Keyed.{index_words, indexed, rowed}
use Rattle.iso_script.specs.Naming.{connection_fault, connection_of}
use Rattle.iso_script.specs.Numbered.{rises_above}
use Rattle.iso_script.specs.Reading.{ReadsFrom, fits, reads, start}
use Rattle.iso_script.specs.Rules.{rule}
use Rattle.iso_script.specs.Sound.{IsSound, IsSoundHead, is_sound_line, is_sound_what}
use Rattle.iso_script.proofs.Faultless.{all_snoc, connection_there, false_true, fault_is, unlimited, value_is}
use Rattle.iso_script.proofs.HeadLaws.{config-head, connect-head, index-head, row-head, table-head}
use Rattle.iso_script.proofs.NumberLaws.{reads-rising}

-- head lines may come
abbrev pub is_before : Place → Bool
is_before place.First = true
is_before place.Head = true
is_before _ = false

-- what holds between lines
record Sound (s : Reader) : Type 0 where
  head : IsSoundHead s.script.head
  none : is_before s.place ≡ true → s.script.lines ≡ []
  lines : list_all (is_sound_line s.script.head) s.script.lines ≡ true
  pictures : length (snapshots s.script.lines) ≤ 32

-- ---- head lines

at_place : (s : Reader) (p : Place) → Sound s → (is_before p ≡ true → s.script.lines ≡ []) → Sound (record s { place = p })
at_place s p h none = record { head = h.head; none = none; lines = h.lines; pictures = h.pictures }

headed : (s : Reader) (head : Head) → Sound s → s.place ≡ place.Head → IsSoundHead head → Sound (with_head s head)
headed s head h is good =
    let empty : s.script.lines ≡ [] = h.none (ap is_before is) in
    record { head = good; none = λ _. empty; lines = ap (list_all (is_sound_line head)) empty; pictures = h.pictures }

set_up : (s : Reader) (n : ℕ) (x : Setting) → Sound s → s.place ≡ place.Head → IsSoundHead (record s.script.head { config = with_setting s.script.head.config x }) → Sound (advance s n (event.Config x))
set_up s n x h is good =
    let r = headed s (record s.script.head { config = with_setting s.script.head.config x }) h is good in
    record { head = r.head; none = r.none; lines = r.lines; pictures = r.pictures }

config-sound : (s : Reader) (n : ℕ) (line : List ℕ) (w : SettingWords) (e : Event) → Sound s → s.place ≡ place.Head → checked e None ≡ configured s.set line w → Sound (advance s n e)
unfolding configured
config-sound s n line w e h is p =
    subst (λ (z : Event). Sound (advance s n z)) (sym (value_is (checked e None) (configured s.set line w) p))
    (set_up s n _ h is (config-head s.script.head s.set line w h.head (sym (fault_is (checked e None) (configured s.set line w) p))))

table-sound : (s : Reader) (n : ℕ) (line : List ℕ) (t : Token) (cs : List ColumnWords) (c : ColumnWords) (more : List ColumnWords) (e : Event) → Sound s → s.place ≡ place.Head → cs ≡ c ∷ more
    → checked e None ≡ declared s.script.head line t cs → Sound (advance s n e)
unfolding declared
table-sound s n line t cs c more e h is some p =
    subst (λ (z : Event). Sound (advance s n z)) (sym (value_is (checked e None) (declared s.script.head line t cs) p))
    (headed s _ h is (table-head s.script.head line t cs c more h.head some (sym (fault_is (checked e None) (declared s.script.head line t cs) p))))

index-sound : (s : Reader) (n : ℕ) (line : List ℕ) (w : IndexWords) (e : Event) → Sound s → s.place ≡ place.Head → checked e None ≡ indexed s.script.head line w → Sound (advance s n e)
unfolding indexed
index-sound s n line w e h is p =
    subst (λ (z : Event). Sound (advance s n z)) (sym (value_is (checked e None) (indexed s.script.head line w) p))
    (headed s _ h is (index-head s.script.head line w h.head (sym (fault_is (checked e None) (indexed s.script.head line w) p))))

row-sound : (s : Reader) (n : ℕ) (line : List ℕ) (first t : Token) (vs : List Token) (close : Token) (e : Event) → Sound s → s.place ≡ place.Head → checked e None ≡ rowed s.script.head line first t vs close
    → Sound (advance s n e)
unfolding rowed
row-sound s n line first t vs close e h is p =
    subst (λ (z : Event). Sound (advance s n z)) (sym (value_is (checked e None) (rowed s.script.head line first t vs close) p))
    (headed s _ h is (row-head s.script.head line first t vs close h.head (sym (fault_is (checked e None) (rowed s.script.head line first t vs close) p))))

connect-sound : (s : Reader) (n : ℕ) (line : List ℕ) (a : Token) (l : Isolation) (e : Event) → Sound s → s.place ≡ place.Head → checked e None ≡ connected s.script.head line a l → Sound (advance s n e)
unfolding connected
connect-sound s n line a l e h is p =
    subst (λ (z : Event). Sound (advance s n z)) (sym (value_is (checked e None) (connected s.script.head line a l) p))
    (headed s _ h is (connect-head s.script.head line a l h.head (sym (fault_is (checked e None) (connected s.script.head line a l) p))))

first-sound : (s : Reader) (n : ℕ) (e : Event) → Sound s → s.place ≡ place.First → e ≡ event.First → Sound (advance s n e)
first-sound s n e h is v = subst (λ (z : Event). Sound (advance s n z)) (sym v) (at_place s place.Head h (λ _. h.none (ap is_before is)))

begin-sound : (s : Reader) (n : ℕ) (e : Event) → Sound s → e ≡ event.Begin → Sound (advance s n e)
begin-sound s n e h v = subst (λ (z : Event). Sound (advance s n z)) (sym v) (at_place s place.Body h (λ b. absurd (false_true b)))

end-sound : (s : Reader) (n : ℕ) (e : Event) → Sound s → e ≡ event.End → Sound (advance s n e)
end-sound s n e h v = subst (λ (z : Event). Sound (advance s n z)) (sym v) (at_place s place.After h (λ b. absurd (false_true b)))

head-sound : (s : Reader) (n : ℕ) (line : List ℕ) (ts : List Token) (e : Event) → Sound s → s.place ≡ place.Head → rule place.Head s line ts (checked e None) → Sound (advance s n e)
head-sound s n line ts e h is w = elim w [
  | inl v ↦ config-sound s n line v.5.0 e h is v.5.5.1
  | inr o ↦ elim o [
    | inl v ↦ table-sound s n line v.5.0 v.5.5.5.0 v.5.5.5.4.0 v.5.5.5.4.5.0 e h is v.5.5.5.4.5.5.1 v.5.5.5.5.5.1
    | inr o ↦ elim o [
      | inl v ↦ index-sound s n line (index_words v.0 v.5.0 v.5.5.0 v.5.5.5.5.0 v.5.5.5.5.5.5.0) e h is v.5.5.5.5.5.5.5.5.1
      | inr o ↦ elim o [
        | inl v ↦ row-sound s n line v.0 v.5.0 v.5.5.5.0 v.5.5.5.5.0 e h is v.5.5.5.5.5.1
        | inr o ↦ elim o [
          | inl v ↦ connect-sound s n line v.5.0 v.5.5.0 e h is v.5.5.5.1
          | inr v ↦ begin-sound s n e h (value_is (checked e None) (plain event.Begin) v.5.1)
        ]
      ]
    ]
  ]
]

-- ---- body lines

-- the SNAPSHOT lines with one line more
snapshots-snoc : (lines : List Line) (l : Line) → length (snapshots (lines ++ l ∷ [])) ≡ length (snapshots lines) + length (cond (is_snapshot l.what) (l ∷ []) [])
snapshots-snoc lines l = ap length (filter-append (λ (m : Line). is_snapshot m.what) lines (l ∷ [])) ∙ length-append (snapshots lines) (snapshots (l ∷ []))

asked : (s : Reader) (n : ℕ) (c : Option Conn) (free : Bool) (w : What) → Sound s → s.place ≡ place.Body → is_sound_what s.script.head c w free ≡ true
    → length (snapshots (s.script.lines ++ record { number = n; conn = c; free = free; what = w } ∷ [])) ≤ 32 → Sound (advance s n (event.Asked c free w))
asked s n c free w h is good few = record {
  head = h.head;
  none = λ b. absurd (false_true (sym (ap is_before is) ∙ b));
  lines = all_snoc (is_sound_line s.script.head) s.script.lines _ h.lines good;
  pictures = few;
}

-- a line that is no SNAPSHOT
no_picture : (s : Reader) (l : Line) → Sound s → is_snapshot l.what ≡ false → length (snapshots (s.script.lines ++ l ∷ [])) ≤ 32
no_picture s l h other =
    let none : length (cond (is_snapshot l.what) (l ∷ []) []) ≡ 0 = ap (λ b. length (cond b (l ∷ []) [])) other in
    let before = h.pictures in
    omega (arith, snapshots-snoc s.script.lines l, none, before)

conn-sound : (head : Head) (line : List ℕ) (a : Token) → connection_fault head line a ≡ None → is_conn head (connection_of head line a) ≡ true
conn-sound head line a e = lt-ltb (connection_of head line a).0 (length head.conns) (connection_there head line a e)

-- whatever the statement: what a statement without a fault comes to is sound
stated-sound : (s : Reader) (n : ℕ) (line : List ℕ) (free : Bool) (a : Token) (ts : List Token) (x : Checked Statement) (e : Event) → Sound s → s.place ≡ place.Body → sql.statement s.script.head line ts x
    → checked e None ≡ stated s.script.head line free a x → Sound (advance s n e)
unfolding stated
stated-sound s n line free a ts x e h is w p =
    let f = least_none (connection_fault s.script.head line a) x.fault (sym (fault_is (checked e None) (stated s.script.head line free a x) p)) in
    let good = and_from (is_conn s.script.head (connection_of s.script.head line a)) (is_sound_statement s.script.head x.value) (conn-sound s.script.head line a f.0) (statement-sound s.script.head line ts x w f.1) in
    subst (λ (z : Event). Sound (advance s n z)) (sym (value_is (checked e None) (stated s.script.head line free a x) p))
    (asked s n (Some (connection_of s.script.head line a)) free (what.Statement x.value) h is good (no_picture s _ h refl))

expired-sound : (s : Reader) (n : ℕ) (line : List ℕ) (a : Token) (e : Event) → Sound s → s.place ≡ place.Body → checked e None ≡ expired s.script.head line a → Sound (advance s n e)
unfolding expired
expired-sound s n line a e h is p =
    subst (λ (z : Event). Sound (advance s n z)) (sym (value_is (checked e None) (expired s.script.head line a) p))
    (asked s n (Some (connection_of s.script.head line a)) false what.Expire h is (conn-sound s.script.head line a (sym (fault_is (checked e None) (expired s.script.head line a) p))) (no_picture s _ h refl))

pictured-sound : (s : Reader) (n : ℕ) (e : Event) → Sound s → s.place ≡ place.Body → checked e None ≡ pictured s.script.lines → Sound (advance s n e)
unfolding pictured
pictured-sound s n e h is p =
    subst (λ (z : Event). Sound (advance s n z)) (sym (value_is (checked e None) (pictured s.script.lines) p)) (asked s n None false what.Snapshot h is refl (one_more _))
  where
    room : nat_le 32 (length (snapshots s.script.lines)) ≡ false
    room = (unlimited (nat_le 32 (length (snapshots s.script.lines))) None (sym (fault_is (checked e None) (pictured s.script.lines) p))).0

    one_more : (l : Line) → length (snapshots (s.script.lines ++ l ∷ [])) ≤ 32
    one_more l =
        let before = leb-false 32 (length (snapshots s.script.lines)) room in
        omega (arith, snapshots-snoc s.script.lines l, at_most_one (is_snapshot l.what) l, before)
      where
        at_most_one : (b : Bool) (l : Line) → length (cond b (l ∷ []) []) ≤ 1
        at_most_one true l = omega arith
        at_most_one false l = omega arith

body-sound : (s : Reader) (n : ℕ) (line : List ℕ) (ts : List Token) (e : Event) → Sound s → s.place ≡ place.Body → rule place.Body s line ts (checked e None) → Sound (advance s n e)
body-sound s n line ts e h is w = elim w [
  | inl v ↦ stated-sound s n line v.0 v.5.0 v.5.5.5.1 v.5.5.5.0 e h is v.5.5.5.4 v.5.5.5.5.5.1
  | inr o ↦ elim o [
    | inl v ↦ expired-sound s n line v.5.0 e h is v.5.5.1
    | inr o ↦ elim o [
      | inl v ↦ pictured-sound s n e h is v.5.1
      | inr v ↦ end-sound s n e h (value_is (checked e None) (plain event.End) v.5.1)
    ]
  ]
]

-- ---- all lines

step_sound : (p : Place) (s : Reader) (n : ℕ) (line : List ℕ) (ts : List Token) (e : Event) → Sound s → s.place ≡ p → rule p s line ts (checked e None) → Sound (advance s n e)
step_sound place.First s n line ts e h is w = first-sound s n e h is (value_is (checked e None) (plain event.First) w.5.5.1)
step_sound place.Head s n line ts e h is w = head-sound s n line ts e h is w
step_sound place.Body s n line ts e h is w = body-sound s n line ts e h is w
step_sound place.After s n line ts e h is w = end-sound s n e h (value_is (checked e None) (plain event.End) w.1)

lines_sound : (texts : List (List ℕ)) (s : Reader) (n : ℕ) (end : Reader) → Sound s → ReadsFrom s n texts end → Sound end
lines_sound [] s n end h r = subst Sound (sym r.1) h
lines_sound (line ∷ texts) s n end h r = go (is_skipped line) r (λ t h r. lines_sound texts t (n + 1) end h r)
  where
    go : (v : Bool) → MatchBool v (ReadsFrom s (n + 1) texts end) ((e : Event) × fits s line e × ReadsFrom (advance s n e) (n + 1) texts end) → ((t : Reader) → Sound t → ReadsFrom t (n + 1) texts end → Sound end) → Sound end
    go true r later = later s h r
    go false r later = later (advance s n r.0) (step_sound s.place s n line (tokens line) r.0 h refl r.1) r.2

start-sound : Sound start
start-sound = record {
  head = record {
    config = refl;
    some_tables = omega arith;
    table_names = refl;
    tables = refl;
    some_indexes = omega arith;
    few_indexes = λ t. omega arith;
    index_names = refl;
    indexes = refl;
    some_rows = λ t. omega arith;
    rows = refl;
    some_conns = omega arith;
    conn_names = refl;
    conns = refl;
  };
  none = λ _. refl;
  lines = refl;
  pictures = omega arith;
}

sound_of : (end : Reader) → Sound end → rises_above 0 end.script.lines ≡ true → IsSound end.script
sound_of end h rising = record { head = h.head; lines = h.lines; pictures = h.pictures; numbers = rising }

-- what is read is sound
pub reads-sound : (bytes : List ℕ) (s : Script) → reads bytes s → IsSound s
reads-sound bytes s r =
    subst IsSound r.2 (sound_of r.0 (lines_sound (text.lines bytes) start 1 r.0 start-sound r.1) (reads-rising bytes r.0.script (r.0, r.1, refl)))
