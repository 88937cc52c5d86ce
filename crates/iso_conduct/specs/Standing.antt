-- Which step a connection may make: what its step call asks of the world.
use Rattle.std.specs.Option.{option_map}
use Rattle.std.specs.Prelude.{◌≡◌, true, List, [], is_some, IsTrue, nat_lt, Some}
use Rattle.iso_conduct.specs.Points.{Point, due, row_due}
use Rattle.iso_conduct.specs.declared.moves.Move.{Move}
use Rattle.iso_history.specs.Legal.{RollbackStands, Runs, is_fresh_on, may_undo}
use Rattle.iso_history.specs.Looks.{may_look}
use Rattle.iso_history.specs.Marks.{mark_of}
use Rattle.iso_history.specs.Nexts.{may_next}
use Rattle.iso_history.specs.Outcomes.{last_record}
use Rattle.iso_history.specs.Phases.{phase, waits_grantable}
use Rattle.iso_history.specs.Records.{left_of}
use Rattle.iso_history.specs.Requests.{may_ask}
use Rattle.iso_history.specs.Versions.{slots}
use Rattle.iso_history.specs.World.{World}
use Rattle.iso_history.specs.World.Last.{Looked}
use Rattle.iso_history.specs.Writes.{is_refusal, may_change, may_write}
use Rattle.iso_history.specs.declared.entry.Want.{Want}
use Rattle.iso_types.specs.Head.{is_table, row_fits}
use Rattle.iso_types.specs.declared.desk.Phase.TheVariants.{Running}
use Rattle.iso_types.specs.declared.head.Head.{Head}
use Rattle.iso_types.specs.declared.value.Conn.{Conn}
use Rattle.iso_types.specs.declared.value.Name.TheVariants.{Row}
use Rattle.iso_types.specs.declared.value.Rid.{Rid}
use Rattle.iso_types.specs.declared.value.TableId.{TableId}
use Rattle.iso_types.specs.declared.value.Value.{Value}

-- a look at a slot, or the end of the scan behind the last one
abbrev pub MayScan : Head → World → Conn → TableId → Rid → Want → Type 0
MayScan head w c t r want = IsTrue (is_table head t) × (nat_lt r.0 (slots w t) ≡ true → IsTrue (may_look head w c t r want))

-- the step may be made, with the row that it writes
abbrev pub MayMake : Head → World → Conn → List Value → Move → Type 0
MayMake head w c row (Move.Lock n m) = Runs w c × IsTrue (may_ask head w c n m)
MayMake head w c row Move.Claim = IsTrue (waits_grantable w c)
MayMake head w c row (Move.Look t r want) = Runs w c × MayScan head w c t r want
MayMake head w c row (Move.Next i range at guarded) = Runs w c × IsTrue (may_next head w c i range at guarded)
MayMake head w c row (Move.Free t r) = Runs w c × (w.last c ≡ Looked t r) × IsTrue (is_fresh_on w c (Row t r))
MayMake head w c row (Move.Collapse t) = (phase w c ≡ Running) × (option_map (λ d. d.0) (w.due c) ≡ Some t)
MayMake head w c row (Move.Insert t) = Runs w c × IsTrue (may_write w c t) × IsTrue (row_fits head t row)
MayMake head w c row (Move.Update t r) = Runs w c × IsTrue (may_change head w c t r) × IsTrue (row_fits head t row)
MayMake head w c row (Move.Delete t r) = Runs w c × IsTrue (may_change head w c t r)
MayMake head w c row (Move.Refuse code) = Runs w c × IsTrue (is_refusal head w c code)
MayMake head w c row (Move.Undo floor) = IsTrue (may_undo w c) × IsTrue (is_some (last_record w c))
MayMake head w c row (Move.Mark name) = Runs w c
MayMake head w c row (Move.Back name) = Runs w c × IsTrue (is_some (mark_of (w.marks c) name))
MayMake head w c row (Move.Set level may_wait) = Runs w c
MayMake head w c row Move.Commit = Runs w c
MayMake head w c row (Move.RollbackEnd code reason) = RollbackStands w c code reason (phase w c) × (left_of w c ≡ [])
MayMake head w c row (Move.Reply code changed) = Runs w c

-- the step that is due at a point may be made
abbrev pub MayGoOn : Head → World → Conn → Point → Type 0
MayGoOn head w c p = MayMake head w c (row_due p) (due p)
