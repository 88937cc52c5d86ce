-- Laws of conduct and pacing.
use Rattle.std.proofs.Common.{◌≡◌, List, [], ◌∷◌, ◌++◌, Option, Some, None, refl, sym, ◌∙◌, true, false}
use Rattle.iso_conduct.specs.Conduct.{IsNext, MayIn, Rolls, is_by, point_after, ready, stops_for_memory}
use Rattle.iso_conduct.specs.Pacing.{Paced, PacedFrom, Paces, is_over, lines_after, lines_from, lines_left}
use Rattle.iso_conduct.specs.Points.{Point}
use Rattle.iso_history.specs.After.{after, start, world, world_from}
use Rattle.iso_history.specs.World.{World}
use Rattle.iso_history.specs.declared.entry.Act.{Act}
use Rattle.iso_history.specs.declared.entry.Entry.{Entry}
use Rattle.iso_script.specs.declared.script.Line.{Line}
use Rattle.iso_types.specs.declared.desk.Phase.{Phase}
use Rattle.iso_types.specs.declared.desk.Phase.TheVariants as phases
use Rattle.iso_types.specs.declared.head.Head.{Head}
use Rattle.iso_types.specs.declared.value.Conn.{Conn}

-- one entry is next, a stop for want of memory aside
next_one : (head : Head) (w : World) (c : Conn) (o : Option Point) (a b : Act) → stops_for_memory a ≡ false → stops_for_memory b ≡ false
    → IsNext head w c o a → IsNext head w c o b → a ≡ b
next_one head w c None a b na nb p q = absurd (cc)
next_one head w c (Some x) a b na nb p q = sym (p (rw na refl)) ∙ q (rw nb refl)

rolls_one : (head : Head) (w : World) (c : Conn) (o : Option Point) (a b : Act) → Rolls head w c o a → Rolls head w c o b → a ≡ b
rolls_one head w c None a b p q = absurd p
rolls_one head w c (Some x) a b p q = sym p ∙ q

pub may_one : (f : Phase) (head : Head) (lines : List Line) (w : World) (c : Conn) (o : Option Point) (a b : Act)
    → stops_for_memory a ≡ false → stops_for_memory b ≡ false
    → MayIn f head lines w c o a → MayIn f head lines w c o b → a ≡ b
may_one phases.Running head lines w c o a b na nb m n = next_one head w c (ready head lines w c o) a b na nb m n
may_one phases.Waiting head lines w c o a b na nb m n = next_one head w c (ready head lines w c o) a b na nb m n
may_one phases.Rolling head lines w c o a b na nb m n = rolls_one head w c (ready head lines w c o) a b m n
may_one phases.Closing head lines w c o a b na nb m n = sym m ∙ n
may_one phases.Idle head lines w c o a b na nb m n = absurd m
may_one phases.Ended head lines w c o a b na nb m n = absurd m

-- others' entries leave the point
pub left_by_others : (head : Head) (lines : List Line) (w : World) (c : Conn) (o : Option Point) (e : Entry) → is_by c e.who ≡ false
    → point_after head lines w c o e ≡ o
left_by_others head lines w c o e h = rw h refl

-- the last entry keeps to the order
paced_last_from : (head : Head) (w : World) (ls : List Line) (es : List Entry) (e : Entry) → PacedFrom head w ls (es ++ e ∷ [])
    → Paces head (world_from head w es) (lines_from ls es) e.who e.act
unfolding lines_from world_from PacedFrom
paced_last_from head w ls [] e p = p.0
paced_last_from head w ls (x ∷ xs) e p = paced_last_from head (after head w x) (lines_after ls x.who x.act) xs e p.1

pub paced_last : (head : Head) (lines : List Line) (es : List Entry) (e : Entry) → Paced head lines (es ++ e ∷ [])
    → Paces head (world head es) (lines_left lines es) e.who e.act
unfolding lines_left world Paced
paced_last head lines es e p = paced_last_from head (start head) lines es e p

-- where it is over and no Stopped stands, no line is left
pub none_left : (w : World) (ls : List Line) → is_over w ls ≡ true → w.pace.stopped ≡ false → ls ≡ []
none_left w [] h s = refl
none_left w (l ∷ ls) h s = absurd (cc)
