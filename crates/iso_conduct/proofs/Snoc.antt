-- One more entry at the end of a history.
use Rattle.std.proofs.Common.{◌≡◌, List, [], ◌∷◌, ◌++◌, refl, Option, None}
use Rattle.iso_conduct.specs.Conduct.{Conduct, ConductFrom, Does, point, point_after, point_from}
use Rattle.iso_conduct.specs.Pacing.{Paced, PacedFrom, Paces, lines_after, lines_from, lines_left}
use Rattle.iso_conduct.specs.Points.{Point}
use Rattle.iso_history.specs.After.{after, start, world, world_from}
use Rattle.iso_history.specs.World.{World}
use Rattle.iso_history.specs.declared.entry.Entry.{Entry}
use Rattle.iso_script.specs.declared.script.Line.{Line}
use Rattle.iso_types.specs.declared.head.Head.{Head}
use Rattle.iso_types.specs.declared.value.Conn.{Conn}

point_from-snoc : (head : Head) (lines : List Line) (w : World) (c : Conn) (o : Option Point) (es : List Entry) (e : Entry)
    → point_from head lines w c o (es ++ e ∷ []) ≡ point_after head lines (world_from head w es) c (point_from head lines w c o es) e
unfolding point_from world_from
point_from-snoc head lines w c o [] e = refl
point_from-snoc head lines w c o (x ∷ xs) e = point_from-snoc head lines (after head w x) c (point_after head lines w c o x) xs e

pub point-snoc : (head : Head) (lines : List Line) (c : Conn) (es : List Entry) (e : Entry)
    → point head lines (es ++ e ∷ []) c ≡ point_after head lines (world head es) c (point head lines es c) e
unfolding point world
point-snoc head lines c es e = point_from-snoc head lines (start head) c None es e

ConductFrom-snoc : (head : Head) (lines : List Line) (w : World) (c : Conn) (o : Option Point) (es : List Entry) (e : Entry)
    → ConductFrom head lines w c o es → Does head lines (world_from head w es) c (point_from head lines w c o es) e
    → ConductFrom head lines w c o (es ++ e ∷ [])
unfolding point_from world_from ConductFrom
ConductFrom-snoc head lines w c o [] e g d = (d, tt)
ConductFrom-snoc head lines w c o (x ∷ xs) e g d =
    (g.0, ConductFrom-snoc head lines (after head w x) c (point_after head lines w c o x) xs e g.1 d)

pub Conduct-snoc : (head : Head) (lines : List Line) (c : Conn) (es : List Entry) (e : Entry)
    → Conduct head lines es c → Does head lines (world head es) c (point head lines es c) e → Conduct head lines (es ++ e ∷ []) c
unfolding point world Conduct
Conduct-snoc head lines c es e g d = ConductFrom-snoc head lines (start head) c None es e g d

lines_from-snoc : (ls : List Line) (es : List Entry) (e : Entry)
    → lines_from ls (es ++ e ∷ []) ≡ lines_after (lines_from ls es) e.who e.act
unfolding lines_from
lines_from-snoc ls [] e = refl
lines_from-snoc ls (x ∷ xs) e = lines_from-snoc (lines_after ls x.who x.act) xs e

pub lines_left-snoc : (lines : List Line) (es : List Entry) (e : Entry)
    → lines_left lines (es ++ e ∷ []) ≡ lines_after (lines_left lines es) e.who e.act
unfolding lines_left
lines_left-snoc lines es e = lines_from-snoc lines es e

PacedFrom-snoc : (head : Head) (w : World) (ls : List Line) (es : List Entry) (e : Entry)
    → PacedFrom head w ls es → Paces head (world_from head w es) (lines_from ls es) e.who e.act
    → PacedFrom head w ls (es ++ e ∷ [])
unfolding lines_from world_from PacedFrom
PacedFrom-snoc head w ls [] e g p = (p, tt)
PacedFrom-snoc head w ls (x ∷ xs) e g p =
    (g.0, PacedFrom-snoc head (after head w x) (lines_after ls x.who x.act) xs e g.1 p)

pub Paced-snoc : (head : Head) (lines : List Line) (es : List Entry) (e : Entry)
    → Paced head lines es → Paces head (world head es) (lines_left lines es) e.who e.act
    → Paced head lines (es ++ e ∷ [])
unfolding lines_left world Paced
Paced-snoc head lines es e g p = PacedFrom-snoc head (start head) lines es e g p
