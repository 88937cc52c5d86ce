use Rattle.std.proofs.Common.{ap}
use Rattle.iso_history.proofs.whole.Looking.{look-alone}
use Rattle.iso_history.specs.Looks.{locks_row}
use Rattle.iso_history.specs.declared.entry.Want.{Want}
use Rattle.iso_state.proofs.FactsAlong.{sound-of}
use Rattle.iso_state.specs.Stands.{world_of}
use Rattle.iso_reads.proofs.Beside.{none-beside}
use Rattle.iso_reads.proofs.looking.is_beside.Goals as goal

pub returns-in-Steady : goal.returns-in-Steady
returns-in-Steady c =
    let p = c.args.parts.now in
    none-beside (world_of p) c.args.conn c.args.table c.args.rid c.args.want
    (look-alone p.head (world_of p) (sound-of c.requires.stands.stands) c.args.conn c.args.table c.args.rid c.args.want
    (ap (λ (x : Want). locks_row x) c.in-Steady.is) c.requires.may c.requires.outcome)

pub returns-in-Repeat : goal.returns-in-Repeat
returns-in-Repeat c =
    let p = c.args.parts.now in
    none-beside (world_of p) c.args.conn c.args.table c.args.rid c.args.want
    (look-alone p.head (world_of p) (sound-of c.requires.stands.stands) c.args.conn c.args.table c.args.rid c.args.want
    (ap (λ (x : Want). locks_row x) c.in-Repeat.is) c.requires.may c.requires.outcome)

pub returns-in-Alter : goal.returns-in-Alter
returns-in-Alter c =
    let p = c.args.parts.now in
    none-beside (world_of p) c.args.conn c.args.table c.args.rid c.args.want
    (look-alone p.head (world_of p) (sound-of c.requires.stands.stands) c.args.conn c.args.table c.args.rid c.args.want
    (ap (λ (x : Want). locks_row x) c.in-Alter.is) c.requires.may c.requires.outcome)

pub returns-in-AlterKept : goal.returns-in-AlterKept
returns-in-AlterKept c =
    let p = c.args.parts.now in
    none-beside (world_of p) c.args.conn c.args.table c.args.rid c.args.want
    (look-alone p.head (world_of p) (sound-of c.requires.stands.stands) c.args.conn c.args.table c.args.rid c.args.want
    (ap (λ (x : Want). locks_row x) c.in-AlterKept.is) c.requires.may c.requires.outcome)
