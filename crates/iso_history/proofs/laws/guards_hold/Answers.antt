use Rattle.iso_history.proofs.laws.guards_hold.Goals as goal
use Rattle.iso_history.proofs.whole.Guarded.{holds-guarded, ranges-guarded, reads-guarded, rows-guarded, tables-guarded}

pub returns-clause-holds : goal.returns-clause-holds
returns-clause-holds c = holds-guarded

pub returns-clause-reads : goal.returns-clause-reads
returns-clause-reads c = reads-guarded

pub returns-clause-rows : goal.returns-clause-rows
returns-clause-rows c = rows-guarded

pub returns-clause-tables : goal.returns-clause-tables
returns-clause-tables c = tables-guarded

pub returns-clause-ranges : goal.returns-clause-ranges
returns-clause-ranges c = ranges-guarded
