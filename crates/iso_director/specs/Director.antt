-- The dispatcher of a run: how far it is in the script, and what its turns leave.
use Rattle.std.specs.Prelude.{◌≡◌, Bool, true, false, List, [], ◌∷◌, ◌++◌, drop}
use Rattle.iso_conduct.specs.Pacing.{Paced, lines_left}
use Rattle.iso_director.specs.Untied.{WasAcyclic}
use Rattle.iso_director.specs.declared.director.Director.{Director}
use Rattle.iso_director.specs.declared.director.Led.{Led}
use Rattle.iso_director.specs.declared.director.Led.TheVariants.{Ended, Ran, Rests}
use Rattle.iso_ends.specs.Doubts.{AreKept}
use Rattle.iso_history.specs.Makers.{by_dispatcher}
use Rattle.iso_history.specs.declared.entry.Act.{Act}
use Rattle.iso_history.specs.declared.entry.Entry.{Entry}
use Rattle.iso_script.specs.declared.script.Script.{Script}

-- the history keeps to the script's lines, and has taken as many of them as the dispatcher says; what it knows of pairs
-- was so, and there was no cycle when it says
pub record HasTaken (script : Script) (es : List Entry) (d : Director) : Type 0 where
  pub paced : Paced script.head script.lines es
  pub left : lines_left script.lines es ≡ drop d.taken script.lines
  pub kept : AreKept script.head es d.doubts
  pub acyclic : WasAcyclic script.head es d.acyclic

-- one entry more of the dispatcher where it ran, else the same entries
abbrev pub HasLed : List Entry → List Entry → Led → Type 0
HasLed old new Ran = (a : Act) × (new ≡ old ++ by_dispatcher a ∷ [])
HasLed old new Rests = new ≡ old
HasLed old new Ended = new ≡ old

-- it made an entry
abbrev pub is_ran : Led → Bool
is_ran Ran = true
is_ran Rests = false
is_ran Ended = false

-- the history is over
abbrev pub has_ended : Led → Bool
has_ended Ran = false
has_ended Rests = false
has_ended Ended = true
