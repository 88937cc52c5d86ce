use Rattle.std.proofs.Common.{sym}
use Rattle.iso_ends.proofs.doubts.Doubts.least.Goals as goal

pub returns-then-is_fresh-clause-least : goal.returns-then-is_fresh-clause-least
returns-then-is_fresh-clause-least c = sym (c.is_fresh.ensures.none c.if-is_fresh.true)

pub least-requires-clause-known : goal.least-requires-clause-known
least-requires-clause-known c = c.is_fresh.ensures.kept.sets

pub returns-clause-kept : goal.returns-clause-kept
returns-clause-kept c = record { fresh = c.is_fresh.ensures.kept.fresh; sets = c.least.ensures.known }
