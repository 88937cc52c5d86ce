use Rattle.std.proofs.Common.{arith, ap}
use Rattle.iso_chain.proofs.Asks.{commit-asks, line-of}
use Rattle.iso_chain.specs.Stands.{Chained}
use Rattle.iso_history.specs.Records.{left}
use Rattle.iso_history.specs.Units.{unit_of}
use Rattle.iso_state.proofs.Commits.{commit-left}
use Rattle.iso_state.proofs.FactsAlong.{kept-of, sound-of, unit-of, work-there}
use Rattle.iso_state.specs.Changes.{rechained}
use Rattle.iso_state.specs.Stands.{content_of, world_of}
use Rattle.iso_uow.specs.Book.{debt_of}
use Rattle.iso_state.proofs.chain.write_commit.Goals as goal

pub commit-requires-clause-line : goal.commit-requires-clause-line
commit-requires-clause-line c =
    let s = c.requires.stands.stands in
    commit-asks (world_of c.args.parts.now) (content_of c.args.parts.now).chain c.args.conn (unit_of (world_of c.args.parts.now) c.args.conn) s.parts.chain
    (kept-of s) (sound-of s).pending (work-there s c.args.conn c.requires.conn) (unit-of s c.args.conn c.requires.runs.0)

pub returns-clause-wrote : goal.returns-clause-wrote
returns-clause-wrote c =
    let s = c.requires.stands.stands in
    let w = world_of c.args.parts.now in
    let u = unit_of w c.args.conn in
    let line = line-of w (content_of c.args.parts.now).chain c.args.conn u s.parts.chain (kept-of s) (work-there s c.args.conn c.requires.conn)
    (unit-of s c.args.conn c.requires.runs.0) in
    ap (λ (k : Chained). rechained (content_of c.args.parts.now) k) (c.commit.ensures (left w.records u) line)

pub returns-clause-left : goal.returns-clause-left
returns-clause-left c =
    let s = c.requires.stands.stands in
    let w = world_of c.args.parts.now in
    let u = unit_of w c.args.conn in
    let line = line-of w (content_of c.args.parts.now).chain c.args.conn u s.parts.chain (kept-of s) (work-there s c.args.conn c.requires.conn)
    (unit-of s c.args.conn c.requires.runs.0) in
    let now = ap (λ (k : Chained). debt_of k.book.works) (c.commit.ensures (left w.records u) line) in
    let sum = commit-left (content_of c.args.parts.now) c.args.conn s c.requires.conn c.requires.runs in
    omega (arith, now, sum, c.debt-before.ensures, c.debt.ensures)

pub overflow_sub-result : goal.overflow_sub-result
overflow_sub-result c =
    let s = c.requires.stands.stands in
    let w = world_of c.args.parts.now in
    let u = unit_of w c.args.conn in
    let line = line-of w (content_of c.args.parts.now).chain c.args.conn u s.parts.chain (kept-of s) (work-there s c.args.conn c.requires.conn)
    (unit-of s c.args.conn c.requires.runs.0) in
    let now = ap (λ (k : Chained). debt_of k.book.works) (c.commit.ensures (left w.records u) line) in
    let sum = commit-left (content_of c.args.parts.now) c.args.conn s c.requires.conn c.requires.runs in
    omega (arith, now, sum, c.debt-before.ensures, c.debt.ensures)
