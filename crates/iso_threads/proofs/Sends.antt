-- What crosses threads. A condition holds itself: its laws are those of its ring, from those of a box.
use denote.Enum.Declared as enum
use denote.Struct.Declared as struct
use denote.Param.Send.{IsSend, IsSync, sendable, enum_send, enum_sync, struct_send, struct_sync, recorded_send, recorded_sync, plain_send, plain_sync}
use Rattle.std.proofs.Crossing.{crosses}
use Rattle.std.specs.contracts.option.Option as option
use Rattle.std.proofs.option.Option.TheSendSync as an_option
use Rattle.iso_modes.proofs.Mode.TheSendSync as a_mode
use Rattle.iso_types.proofs.head.Isolation.TheSendSync as a_level
use Rattle.iso_types.proofs.items.Items.TheSendSync as items
use Rattle.iso_types.proofs.row.Row.TheSendSync as a_row
use Rattle.iso_types.proofs.text.Text.TheSendSync as a_text
use Rattle.iso_types.proofs.value.TableId.TheSendSync as a_table
use Rattle.iso_types.proofs.value.Value.TheSendSync as a_value
use Rattle.iso_types.proofs.value.Conn.TheSendSync as a_conn
use Rattle.iso_types.proofs.head.Head.TheSendSync as a_head
use Rattle.iso_types.specs.contracts.head.Isolation as isolation
use Rattle.iso_types.specs.contracts.value.Conn as conn
use Rattle.iso_sql.proofs.statement.Condition.TheLaws.TheKnot.{send-Condition, sync-Condition}
use Rattle.iso_sql.proofs.statement.Items2.TheSendSync as shown
use Rattle.iso_sql.proofs.statement.Op.TheSendSync as an_op
use Rattle.iso_sql.proofs.statement.Sets.TheSendSync as sets
use Rattle.sqlite_items.proofs.boxed.Boxed.TheSendSync as a_box
use Rattle.iso_sql.specs.contracts.statement.Condition as a_condition
use Rattle.iso_sql.specs.contracts.statement.Statement as a_statement
use Rattle.iso_script.specs.contracts.script.What as a_what
use Rattle.iso_script.specs.contracts.script.Line as a_line
use Rattle.iso_script.specs.contracts.script.Script as a_script
use Rattle.iso_conduct.specs.contracts.course.Course as a_course
use Rattle.iso_conduct.specs.contracts.task.Task as a_task
use Rattle.iso_agent.proofs.agent.Kept.TheSendSync as a_kept
use Rattle.iso_conduct.proofs.course.Walk.TheSendSync as a_walk
use Rattle.iso_conduct.proofs.course.Place.TheSendSync as a_place
use Rattle.iso_conduct.proofs.course.Front.TheSendSync as a_front
use Rattle.iso_conduct.proofs.course.Stage.TheSendSync as a_stage
use Rattle.iso_conduct.proofs.course.Found.TheSendSync as a_found
use Rattle.iso_conduct.specs.contracts.course.Found as found
use Rattle.iso_types.proofs.head.TableDef.TheSendSync as a_table_def
use Rattle.iso_types.specs.contracts.head.TableDef as table_def
use Rattle.iso_types.specs.contracts.row.Row as row
use Rattle.iso_agent.specs.contracts.agent.Agent as an_agent
use Rattle.iso_history.specs.declared.chronicle.Chronicle.{Ghosts}
use Rattle.iso_latch.proofs.pass.Latch.TheSendSync as latch_facts
use Rattle.iso_latch.proofs.pass.Pass.TheSendSync as pass_facts
use Rattle.iso_latch.specs.contracts.pass.Latch as a_latch
use Rattle.iso_agent.proofs.bells.Bells.TheSendSync as bells_facts
use Rattle.iso_agent.specs.contracts.bells.Bells as the_bells
use Rattle.iso_threads.proofs.flags.Flags.TheSendSync as flags_facts
use Rattle.iso_threads.specs.contracts.flags.Flags as the_flags
use Rattle.iso_state.proofs.state.State.TheSendSync as state_facts
use Rattle.iso_state.specs.contracts.state.State as a_state
use Rattle.iso_threads.specs.contracts.backs.Back as a_back

byte_send : IsSend (denote.Struct.Field.u8-field).row
byte_send = plain_send _ _ _ _ _

byte_sync : IsSync (denote.Struct.Field.u8-field).row
byte_sync = plain_sync _ _ _ _ _

pub condition_send : IsSend (a_condition.the_field).row
condition_send = send-Condition byte_send an_op.the_field_send a_value.the_field_send a_box.the_send

pub condition_sync : IsSync (a_condition.the_field).row
condition_sync = sync-Condition byte_sync an_op.the_field_sync a_value.the_field_sync a_box.the_sync

level_send : IsSend (option.the_field isolation.the_row).row
level_send = an_option.the_field_send isolation.the_row a_level.the_send

level_sync : IsSync (option.the_field isolation.the_row).row
level_sync = an_option.the_field_sync isolation.the_row a_level.the_sync

statement_sync : IsSync (a_statement.the_field).row
statement_sync = enum_sync (enum.shape a_statement.the_type) (
  (a_table.the_field_sync, (shown.the_field_sync, (condition_sync, (level_sync, tt)))),
  (
    (a_table.the_field_sync, (a_row.the_sync, tt)),
    (
      (a_table.the_field_sync, (sets.the_field_sync, (condition_sync, (level_sync, tt)))),
      (
        (a_table.the_field_sync, (condition_sync, (level_sync, tt))),
        (tt, (tt, ((a_text.the_sync, tt), ((a_text.the_sync, tt), ((a_table.the_field_sync, (a_mode.the_field_sync, tt)), ((level_sync, tt), ((plain_sync _ _ _ _ _, tt), tt))))))),
      ),
    ),
  ),
)

statement_send : IsSend (a_statement.the_field).row
statement_send = enum_send (enum.shape a_statement.the_type) (
  (a_table.the_field_send, (shown.the_field_send, (condition_send, (level_send, tt)))),
  (
    (a_table.the_field_send, (a_row.the_send, tt)),
    (
      (a_table.the_field_send, (sets.the_field_send, (condition_send, (level_send, tt)))),
      (
        (a_table.the_field_send, (condition_send, (level_send, tt))),
        (tt, (tt, ((a_text.the_send, tt), ((a_text.the_send, tt), ((a_table.the_field_send, (a_mode.the_field_send, tt)), ((level_send, tt), ((plain_send _ _ _ _ _, tt), tt))))))),
      ),
    ),
  ),
)

what_sync : IsSync (a_what.the_field).row
what_sync = enum_sync (enum.shape a_what.the_type) ((statement_sync, tt), (tt, (tt, tt)))

conn_sync : IsSync (option.the_field conn.the_row).row
conn_sync = an_option.the_field_sync conn.the_row a_conn.the_sync

line_sync : IsSync a_line.the_row
line_sync = recorded_sync (a_line.the_field).row _ _ (a_line.the_type).to_one (struct_sync (struct.shape a_line.the_type) (plain_sync _ _ _ _ _, (conn_sync, (plain_sync _ _ _ _ _, (what_sync, tt)))))

script_field_sync : IsSync (a_script.the_field).row
script_field_sync = struct_sync (struct.shape a_script.the_type) (a_head.the_field_sync, (items.the_sync a_line.the_row line_sync, tt))

pub script_sync : IsSync a_script.the_row
script_sync = recorded_sync (a_script.the_field).row _ _ (a_script.the_type).to_one script_field_sync

pub course_send : IsSend a_course.the_row
course_send = recorded_send (a_course.the_field).row _ _ (a_course.the_type).to_one (struct_send (struct.shape a_course.the_type) (
  statement_send,
  (
    an_option.the_field_send table_def.the_row a_table_def.the_send,
    (
      a_table.the_field_send,
      (
        plain_send _ _ _ _ _,
        (
          a_walk.the_field_send,
          (
            a_place.the_field_send,
            (
              a_front.the_field_send,
              (
                a_stage.the_field_send,
                (
                  an_option.the_field_send denote.Builtin.u32 (plain_send _ _ _ _ _),
                  (
                    items.the_send row.the_row a_row.the_send,
                    (items.the_send found.the_row a_found.the_send, (a_row.the_send, (an_option.the_field_send denote.Builtin.i32 (plain_send _ _ _ _ _), tt))),
                  ),
                ),
              ),
            ),
          ),
        ),
      ),
    ),
  ),
))

pub task_send : IsSend a_task.the_row
task_send = search (course_send, sendable, crosses) depth 40

agent_field_send : IsSend (an_agent.the_field).row
agent_field_send = struct_send (struct.shape an_agent.the_type)
    (a_conn.the_field_send, (an_option.the_field_send a_task.the_row task_send, (a_kept.the_field_send, tt)))

pub agent_send : IsSend an_agent.the_row
agent_send = recorded_send (an_agent.the_field).row _ _ (an_agent.the_type).to_one agent_field_send

pub back_send : IsSend a_back.the_row
back_send = search (agent_send, state_facts.the_send, pass_facts.the_field_send, sendable, crosses) depth 40

pub back_field_send : IsSend (a_back.the_field).row
back_field_send = search (agent_send, state_facts.the_send, pass_facts.the_field_send, sendable, crosses) depth 40

pub latch_sync : (h : Ghosts (a_state.the_row).Denot) → IsSync (a_latch.the_row a_state.the_row h)
latch_sync h = search (latch_facts.the_sync, state_facts.the_send, state_facts.the_sync, sendable, crosses) depth 40

pub bells_sync : IsSync the_bells.the_row
bells_sync = search (bells_facts.the_sync, sendable, crosses) depth 40

pub flags_sync : IsSync the_flags.the_row
flags_sync = search (flags_facts.the_sync, sendable, crosses) depth 40
