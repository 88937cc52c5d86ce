-- Which bytes are a script, and which is the first bad line of others. // this project's own
use Rattle.std.specs.Prelude.{◌≡◌, ◌⊎◌, ℕ, Bool, true, false, List, [], codes, length, Some, None}
use Rattle.iso_types.specs.declared.head.Config.{Config}
use Rattle.iso_grammar.specs.declared.fault.Cause.TheVariants as why
use Rattle.iso_grammar.specs.declared.fault.Fault.{Fault}
use Rattle.iso_grammar.specs.Faults.{checked, place_of}
use Rattle.iso_grammar.specs.Grammar.{StopsAt}
use Rattle.iso_grammar.specs.Lex.{tokens, is_skipped}
use Rattle.iso_grammar.specs.Lines.{lines}
use Rattle.iso_grammar.specs.Script as script
use Rattle.iso_script.specs.declared.script.Script.{Script}
use Rattle.iso_script.specs.declared.event.Event.{Event}
use Rattle.iso_script.specs.declared.event.Settings.{Settings}
use Rattle.iso_script.specs.declared.reader.Place.{Place}
use Rattle.iso_script.specs.declared.reader.Place.TheVariants as place
use Rattle.iso_script.specs.declared.reader.Reader.{Reader}
use Rattle.iso_script.specs.declared.fault.LineCause.{LineCause}
use Rattle.iso_script.specs.declared.fault.LineCause.TheVariants as cause
use Rattle.iso_script.specs.declared.fault.ScriptFault.{ScriptFault}
use Rattle.iso_script.specs.declared.fault.ScriptFault.TheVariants as fault
use Rattle.iso_script.specs.Advance.{advance}
use Rattle.iso_script.specs.Rules.{rule}

-- the line is this event in this state: it says so without a fault
abbrev pub fits : Reader → List ℕ → Event → Type 0
fits s line e = rule s.place s line (tokens line) (checked e None)

-- the cause of a fault, with its place
abbrev pub cause_of : Fault → LineCause
cause_of f = elim f.cause [ why.Unknown ↦ cause.Unknown f.place | why.TypeFault ↦ cause.TypeFault f.place | why.Duplicate ↦ cause.Duplicate f.place | why.Limit ↦ cause.Limit f.place ]

-- how a cause is called where a script is refused
abbrev pub word_of : LineCause → List ℕ
word_of (cause.Syntax place) = codes "SYNTAX"
word_of (cause.Unknown place) = codes "UNKNOWN"
word_of (cause.TypeFault place) = codes "TYPE"
word_of (cause.Duplicate place) = codes "DUPLICATE"
word_of (cause.Limit place) = codes "LIMIT"

-- where it stands, in bytes of its line from 1
abbrev pub place_at : LineCause → ℕ
place_at (cause.Syntax place) = place
place_at (cause.Unknown place) = place
place_at (cause.TypeFault place) = place
place_at (cause.Duplicate place) = place
place_at (cause.Limit place) = place

-- its tokens begin no line of this position, from the first token on at which they do not
abbrev pub IsMisspelt : Reader → List ℕ → LineCause → Type 0
IsMisspelt s line why = (left : ℕ) × StopsAt (rule s.place s line) (tokens line) left × (why ≡ cause.Syntax (place_of (tokens line) left (length line)))

-- it is a line of this position, and has this least fault
abbrev pub IsFaulty : Reader → List ℕ → LineCause → Type 0
IsFaulty s line why = (e : Event) × (f : Fault) × rule s.place s line (tokens line) (checked e (Some f)) × (why ≡ cause_of f)

-- what is wrong with the line in this state
abbrev pub wrong : Reader → List ℕ → LineCause → Type 0
wrong s line why = IsMisspelt s line why ⊎ IsFaulty s line why

-- END was read
abbrev pub is_ended : Reader → Bool
is_ended s = is_last s.place
  where
    is_last : Place → Bool
    is_last place.After = true
    is_last _ = false

-- what holds where no CONFIG line stands
abbrev pub defaults : Config
defaults = record { cur_commit = true; locklist = 1024; maxlocks = 60; logmax = 65536; window = 65536 }

abbrev pub none_set : Settings
none_set = record { cur_commit = false; locklist = false; maxlocks = false; logmax = false; window = false }

abbrev pub empty : Script
empty = record { head = record { config = defaults; tables = []; indexes = []; rows = []; conns = [] }; lines = [] }

-- before the first line
abbrev pub start : Reader
start = record { place = place.First; set = none_set; script = empty }

-- a missing END is a fault of the line after the last, at place 1
abbrev pub unended : LineCause
unended = cause.Syntax 1

abbrev pub ReadsFrom : Reader → ℕ → List (List ℕ) → Reader → Type 0
ReadsFrom = script.ReadsFrom fits wrong advance is_skipped is_ended unended

abbrev pub BadFrom : Reader → ℕ → List (List ℕ) → ℕ → LineCause → Type 0
BadFrom = script.BadFrom fits wrong advance is_skipped is_ended unended

-- the bytes are a script, and stand for this one
abbrev pub reads : List ℕ → Script → Type 0
reads bytes s = (end : Reader) × ReadsFrom start 1 (lines bytes) end × (end.script ≡ s)

-- the line with this number is the first bad one, for this cause
abbrev pub bad : List ℕ → ℕ → LineCause → Type 0
bad bytes n why = BadFrom start 1 (lines bytes) n why

-- the fault is that of the bytes; want of memory says nothing of them
abbrev pub Refuses : List ℕ → ScriptFault → Type 0
Refuses bytes (fault.BadLine n why) = bad bytes n why
Refuses bytes fault.Memory = Unit {0}
