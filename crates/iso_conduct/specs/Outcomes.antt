-- The entry that each move of a statement records on a prefix.
use Rattle.iso_conduct.specs.declared.moves.Move.{Move}
use Rattle.iso_history.specs.Nexts.{next}
use Rattle.iso_history.specs.Outcomes.{asked_by, due_mode, last_record, look_act, next_by, written_by}
use Rattle.iso_history.specs.Requests.{request}
use Rattle.iso_history.specs.Versions.{next_rid}
use Rattle.iso_history.specs.World.{World}
use Rattle.iso_history.specs.Writes.{deletes, inserts, updates}
use Rattle.iso_history.specs.declared.entry.Act.TheVariants.{Back, Claim, Collapse, Commit, Delete, Free, Insert, Mark, Refused, Reply, Rollback, Set, Undo, Update}
use Rattle.iso_history.specs.declared.entry.Act.{Act}
use Rattle.iso_types.specs.declared.head.Head.{Head}
use Rattle.iso_types.specs.declared.value.Conn.{Conn}
use Rattle.iso_types.specs.declared.value.Value.{Value}
use Rattle.std.specs.Prelude.{List, unwrap_or}

-- the entry of a step, with the row that it writes or the rows that it replies
abbrev pub act_of : Head → World → Conn → List Value → List (List Value) → Move → Act
act_of head w c row rows (Move.Lock n m) = asked_by head w c n m (request head w c n m)
act_of head w c row rows Move.Claim = Claim
act_of head w c row rows (Move.Look t r want) = look_act head w c t r want
act_of head w c row rows (Move.Next i range at guarded) = next_by head w c i range at guarded (next head w c i range at guarded)
act_of head w c row rows (Move.Free t r) = Free t r
act_of head w c row rows (Move.Collapse t) = Collapse t (due_mode w c)
act_of head w c row rows (Move.Insert t) = written_by head w c (Insert t (next_rid w t) row) (inserts head w c t row)
act_of head w c row rows (Move.Update t r) = written_by head w c (Update t r row) (updates head w c t r row)
act_of head w c row rows (Move.Delete t r) = written_by head w c (Delete t r) (deletes head w c)
act_of head w c row rows (Move.Refuse code) = Refused code
act_of head w c row rows (Move.Undo floor) = Undo (unwrap_or (last_record w c) 0)
act_of head w c row rows (Move.Mark name) = Mark name
act_of head w c row rows (Move.Back name) = Back name
act_of head w c row rows (Move.Set level may_wait) = Set level may_wait
act_of head w c row rows Move.Commit = Commit
act_of head w c row rows (Move.RollbackEnd code reason) = Rollback code reason
act_of head w c row rows (Move.Reply code changed) = Reply code changed rows
