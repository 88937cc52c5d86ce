use Rattle.std.proofs.Common.{◌≡◌, ◌-◌, ◌+◌, ◌≤◌, true}
use Rattle.iso_sql.specs.Names.{names_of}
use Rattle.iso_sql.specs.ConditionReading.{scan}
use Rattle.iso_sql.proofs.condition.skip.Given as goal

abbrev pub invariant-loop-turn : goal.invariant-loop-turn
invariant-loop-turn l = record {
  few : l.open ≤ l._turn + 1;
  same : scan (names_of l.scope) (l.bound - l._turn) l.open l.wants l.tokens.rest ≡ scan (names_of l.scope) l.bound 1 true l.fn.tokens.rest;
  most : l.tokens.most ≡ l.fn.tokens.most;
}
