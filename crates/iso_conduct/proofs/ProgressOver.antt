-- A connection closes, or has ended, only where no line is left or a Stopped stands; and the lines that are left are some of the script's.
use Rattle.std.proofs.Common.{◌≡◌, Bool, true, false, ◌||◌, List, [], ◌∷◌, refl, if◌then◌else◌, inl, inr}
use Rattle.std.specs.List.{list_all}
use Rattle.std.proofs.lemmas.Bool.{and_parts, both_ways, or_cases}
use Rattle.iso_conduct.specs.Pacing.{Paced, PacedFrom, Paces, is_bare, is_over, lines_after, lines_after_act, lines_behind, lines_from, lines_left}
use Rattle.iso_history.specs.After.{after, start, world, world_from}
use Rattle.iso_history.specs.Legal.{By, Ground, GroundFrom}
use Rattle.iso_history.specs.Paces.{is_stop}
use Rattle.iso_history.specs.Phases.{phase_of}
use Rattle.iso_history.specs.World.{World}
use Rattle.iso_history.specs.declared.entry.Act.{Act}
use Rattle.iso_history.specs.declared.entry.Act.TheVariants.{Busy, Close, Dispatch, Expire, Snapshot, Stopped}
use Rattle.iso_history.specs.declared.entry.Entry.{Entry}
use Rattle.iso_history.specs.declared.entry.Who.{Who}
use Rattle.iso_history.specs.declared.entry.Who.TheVariants.{Agent, Dispatcher}
use Rattle.iso_script.specs.declared.script.Line.{Line}
use Rattle.iso_types.specs.Ids.{conn_eq}
use Rattle.iso_types.specs.declared.desk.Phase.TheVariants.{Closing}
use Rattle.iso_types.specs.declared.head.Head.{Head}
use Rattle.iso_types.specs.declared.value.Conn.{Conn}

closing-by : (e k d t s : Bool) → phase_of e k d t s ≡ Closing → k ≡ true
closing-by true k d t s h = absurd (cc)
closing-by false true d t s h = refl
closing-by false false true t s h = absurd (cc)
closing-by false false false true s h = absurd (cc)
closing-by false false false false true h = absurd (cc)
closing-by false false false false false h = absurd (cc)

or-left : (a b : Bool) → a ≡ true → (a || b) ≡ true
or-left a b h = rw h refl

or-right : (a b : Bool) → b ≡ true → (a || b) ≡ true
or-right true b h = refl
or-right false b h = h

-- who closes or has ended does so at the end
abbrev pub EndsOver : World → List Line → Type 0
EndsOver w ls = (c : Conn) → (w.closing c || w.ended c) ≡ true → is_over w ls ≡ true

bare-after : (ls : List Line) (a : Act) → is_bare ls ≡ true → is_bare (lines_after_act ls a) ≡ true
bare-after [] (Dispatch line c) h = refl
bare-after [] (Busy line c) h = refl
bare-after [] (Expire line c ended) h = refl
bare-after [] (Snapshot line locks) h = refl
bare-after [] _ h = refl
bare-after (l ∷ ls) a h = absurd (both_ways false refl h)

-- what is over stays so
over-after : (w : World) (ls : List Line) (a : Act) → is_over w ls ≡ true → (is_bare (lines_after_act ls a) || (is_stop a || w.pace.stopped)) ≡ true
over-after w ls a h = elim (or_cases (is_bare ls) w.pace.stopped h) [
  | inl b ↦ or-left (is_bare (lines_after_act ls a)) (is_stop a || w.pace.stopped) (bare-after ls a b)
  | inr s ↦ or-right (is_bare (lines_after_act ls a)) (is_stop a || w.pace.stopped) (or-right (is_stop a) w.pace.stopped s)
]

over-by : (head : Head) (w : World) (ls : List Line) (who : Who) (a : Act) → By head w who a → Paces head w ls who a → EndsOver w ls
    → EndsOver (after head w (record { who = who; act = a })) (lines_after ls who a)
over-by head w ls Dispatcher (Close c) al pace over = λ d h. pace
over-by head w ls Dispatcher a al pace over = λ d h. over-after w ls a (over d h)
over-by head w ls (Agent c) (Stopped cause) al pace over = λ d h. or-right (is_bare ls) true refl
over-by head w ls (Agent c) Act.Ended al pace over = λ d h. go d (conn_eq d c) refl h where
  go : (d : Conn) (b : Bool) → conn_eq d c ≡ b → (w.closing d || (if conn_eq d c then true else w.ended d)) ≡ true → is_over w ls ≡ true
  go d true e h = over c (or-left (w.closing c) (w.ended c) (closing-by _ _ _ _ _ al.1.0))
  go d false e h = over d (rw e at h)
over-by head w ls (Agent c) _ al pace over = over

over-from : (head : Head) (w : World) (ls : List Line) (es : List Entry) → GroundFrom head w es → PacedFrom head w ls es → EndsOver w ls
    → EndsOver (world_from head w es) (lines_from ls es)
unfolding world_from GroundFrom PacedFrom lines_from
over-from head w ls [] g p over = over
over-from head w ls (e ∷ es) g p over =
    over-from head (after head w e) (lines_after ls e.who e.act) es g.1 p.1 (over-by head w ls e.who e.act g.0.2 p.0 over)

-- so it is in every legal history
pub over-world : (head : Head) (lines : List Line) (es : List Entry) → Ground head es → Paced head lines es → EndsOver (world head es) (lines_left lines es)
unfolding world Ground Paced lines_left
over-world head lines es g p = over-from head (start head) lines es g p (λ c h. absurd (both_ways false refl h))

behind-all : (q : Line → Bool) (ls : List Line) → list_all q ls ≡ true → list_all q (lines_behind ls) ≡ true
behind-all q [] h = h
behind-all q (l ∷ ls) h = (and_parts (q l) (list_all q ls) h).1

after-all : (q : Line → Bool) (ls : List Line) (who : Who) (a : Act) → list_all q ls ≡ true → list_all q (lines_after ls who a) ≡ true
after-all q ls (Agent c) a h = h
after-all q ls Dispatcher (Dispatch line c) h = behind-all q ls h
after-all q ls Dispatcher (Busy line c) h = behind-all q ls h
after-all q ls Dispatcher (Expire line c ended) h = behind-all q ls h
after-all q ls Dispatcher (Snapshot line locks) h = behind-all q ls h
after-all q ls Dispatcher _ h = h

from-all : (q : Line → Bool) (ls : List Line) (es : List Entry) → list_all q ls ≡ true → list_all q (lines_from ls es) ≡ true
unfolding lines_from
from-all q ls [] h = h
from-all q ls (e ∷ es) h = from-all q (lines_after ls e.who e.act) es (after-all q ls e.who e.act h)

-- what all lines of the script have, those that are left have
pub left-all : (q : Line → Bool) (lines : List Line) (es : List Entry) → list_all q lines ≡ true → list_all q (lines_left lines es) ≡ true
unfolding lines_left
left-all q lines es h = from-all q lines es h
