use Rattle.std.proofs.Common.{◌∙◌, ap, sym, ℕ, Option}
use Rattle.iso_history.specs.Units.{unit_of as unit_in}
use Rattle.iso_state.specs.Stands.{content_of, world_of}
use Rattle.iso_writes.proofs.SlotReads.{beside-is, beside_by, head-there}
use Rattle.iso_writes.proofs.slots.is_changed_beside.Goals as goal

pub maker_of-requires : goal.maker_of-requires
maker_of-requires c =
    head-there (content_of c.args.parts.now) c.requires.stands.stands c.args.table c.args.rid c.in-Some.head (sym c.head_of.ensures ∙ c.in-Some.is)

pub returns-in-Some : goal.returns-in-Some
returns-in-Some c =
    let p = content_of c.args.parts.now in
    rw (c.maker_of.ensures, c.unit_of.ensures)
    (ap (λ (o : Option ℕ). beside_by p.chain.log (unit_in (world_of c.args.parts.now) c.args.conn) o) (sym c.in-Some.is ∙ c.head_of.ensures)
    ∙ beside-is p c.requires.stands.stands c.args.table c.args.rid c.args.conn)

pub returns-in-None : goal.returns-in-None
returns-in-None c =
    let p = content_of c.args.parts.now in
    ap (λ (o : Option ℕ). beside_by p.chain.log (unit_in (world_of c.args.parts.now) c.args.conn) o) (sym c.in-None.is ∙ c.head_of.ensures)
    ∙ beside-is p c.requires.stands.stands c.args.table c.args.rid c.args.conn
