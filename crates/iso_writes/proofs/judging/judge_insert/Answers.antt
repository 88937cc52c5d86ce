use Rattle.iso_writes.proofs.Writable.{table-here}
use Rattle.iso_writes.proofs.judging.judge_insert.Goals as goal

pub is_table_full-requires-clause-table : goal.is_table_full-requires-clause-table
is_table_full-requires-clause-table c =
    table-here c.args.parts.now c.args.table c.args.row.now c.requires.stands c.requires.row

pub next_slot-rid-requires-clause-table : goal.next_slot-rid-requires-clause-table
next_slot-rid-requires-clause-table c =
    table-here c.args.parts.now c.args.table c.args.row.now c.requires.stands c.requires.row

pub row_need-more-requires-clause-table : goal.row_need-more-requires-clause-table
row_need-more-requires-clause-table c =
    table-here c.args.parts.now c.args.table c.args.row.now c.requires.stands c.requires.row
