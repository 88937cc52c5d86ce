-- Histories in a row, and others' entries.
use Rattle.std.proofs.Common.{◌≡◌, true, false, List, [], ◌∷◌, ◌++◌, refl, ◌∙◌, Option, None}
use Rattle.iso_conduct.proofs.Lasts.{left_by_others, may_one}
use Rattle.iso_conduct.specs.Conduct.{AreOthers, Conduct, ConductFrom, Does, is_by, point, point_after, point_from, stops_for_memory}
use Rattle.iso_conduct.specs.Points.{Point}
use Rattle.iso_history.specs.After.{after, start, world, world_from}
use Rattle.iso_history.specs.Phases.{phase}
use Rattle.iso_history.specs.World.{World}
use Rattle.iso_history.specs.declared.entry.Entry.{Entry}
use Rattle.iso_script.specs.declared.script.Line.{Line}
use Rattle.iso_types.specs.declared.head.Head.{Head}
use Rattle.iso_types.specs.declared.value.Conn.{Conn}

-- others' entries ask nothing
does-other : (head : Head) (lines : List Line) (w : World) (c : Conn) (o : Option Point) (e : Entry) → is_by c e.who ≡ false → Does head lines w c o e
does-other head lines w c o e n by = absurd (cc)

pub point-others : (head : Head) (lines : List Line) (w : World) (c : Conn) (o : Option Point) (es : List Entry) → AreOthers c es
    → point_from head lines w c o es ≡ o
unfolding point_from
point-others head lines w c o [] n = refl
point-others head lines w c o (e ∷ es) n = rw (left_by_others head lines w c o e n.0) (point-others head lines (after head w e) c o es n.1)

pub conduct-others : (head : Head) (lines : List Line) (w : World) (c : Conn) (o : Option Point) (es : List Entry) → AreOthers c es
    → ConductFrom head lines w c o es
unfolding ConductFrom
conduct-others head lines w c o [] n = tt
conduct-others head lines w c o (e ∷ es) n =
    (does-other head lines w c o e n.0, rw (left_by_others head lines w c o e n.0) (conduct-others head lines (after head w e) c o es n.1))

-- histories in a row
pub point-append : (head : Head) (lines : List Line) (w : World) (c : Conn) (o : Option Point) (es fs : List Entry)
    → point_from head lines w c o (es ++ fs) ≡ point_from head lines (world_from head w es) c (point_from head lines w c o es) fs
unfolding world_from point_from
point-append head lines w c o [] fs = refl
point-append head lines w c o (x ∷ xs) fs = point-append head lines (after head w x) c (point_after head lines w c o x) xs fs

pub conduct-append : (head : Head) (lines : List Line) (w : World) (c : Conn) (o : Option Point) (es fs : List Entry)
    → ConductFrom head lines w c o es → ConductFrom head lines (world_from head w es) c (point_from head lines w c o es) fs
    → ConductFrom head lines w c o (es ++ fs)
unfolding world_from point_from ConductFrom
conduct-append head lines w c o [] fs g h = h
conduct-append head lines w c o (x ∷ xs) fs g h =
    (g.0, conduct-append head lines (after head w x) c (point_after head lines w c o x) xs fs g.1 h)

-- what others add leaves the point of the history
pub fit-others : (head : Head) (lines : List Line) (c : Conn) (es fs : List Entry) → AreOthers c fs
    → point head lines (es ++ fs) c ≡ point head lines es c
unfolding point world
fit-others head lines c es fs n =
    point-append head lines (start head) c None es fs ∙ point-others head lines (world_from head (start head) es) c (point_from head lines (start head) c None es) fs n

-- and the conduct
pub kept-others : (head : Head) (lines : List Line) (c : Conn) (es fs : List Entry) → AreOthers c fs → Conduct head lines es c
    → Conduct head lines (es ++ fs) c
unfolding Conduct
kept-others head lines c es fs n g =
    conduct-append head lines (start head) c None es fs g
    (conduct-others head lines (world_from head (start head) es) c (point_from head lines (start head) c None es) fs n)

-- what conduct says of the last entry
conduct-last-from : (head : Head) (lines : List Line) (w : World) (c : Conn) (o : Option Point) (es : List Entry) (e : Entry)
    → ConductFrom head lines w c o (es ++ e ∷ []) → Does head lines (world_from head w es) c (point_from head lines w c o es) e
unfolding world_from point_from ConductFrom
conduct-last-from head lines w c o [] e g = g.0
conduct-last-from head lines w c o (x ∷ xs) e g = conduct-last-from head lines (after head w x) c (point_after head lines w c o x) xs e g.1

pub conduct-last : (head : Head) (lines : List Line) (c : Conn) (es : List Entry) (e : Entry) → Conduct head lines (es ++ e ∷ []) c
    → Does head lines (world head es) c (point head lines es c) e
unfolding world point Conduct
conduct-last head lines c es e g = conduct-last-from head lines (start head) c None es e g

-- two own entries that may come next are one, stops for memory aside
pub next-one : (head : Head) (lines : List Line) (c : Conn) (es : List Entry) (e f : Entry)
    → Conduct head lines (es ++ e ∷ []) c → Conduct head lines (es ++ f ∷ []) c → is_by c e.who ≡ true → is_by c f.who ≡ true
    → stops_for_memory e.act ≡ false → stops_for_memory f.act ≡ false → e.act ≡ f.act
next-one head lines c es e f g h be bf ne nf =
    may_one (phase (world head es) c) head lines (world head es) c (point head lines es c) e.act f.act ne nf
    (conduct-last head lines c es e g be) (conduct-last head lines c es f h bf)
