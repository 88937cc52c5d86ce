use Rattle.std.proofs.Common.{◌≡◌, ◌∙◌, Bool, if◌then◌else◌, subst, sym, true}
use Rattle.iso_history.specs.Looks.{look as looks, shown}
use Rattle.iso_history.specs.Makers.{by_agent}
use Rattle.iso_history.specs.Outcomes.{look_by}
use Rattle.iso_history.specs.Stops.{is_full}
use Rattle.iso_history.specs.Versions.{slots}
use Rattle.iso_history.specs.declared.entry.Act.TheVariants.{ScanEnd}
use Rattle.iso_state.specs.Stands.{content_of, world_of}
use Rattle.iso_reads.proofs.Beside.{by-shows, still-ok}
use Rattle.iso_reads.specs.Answers.{answer_by}
use Rattle.iso_reads.proofs.looking.look.Goals as goal

pub returns-then-is_slot-clause-shows : goal.returns-then-is_slot-clause-shows
returns-then-is_slot-clause-shows c =
    let p = c.args.parts.now in
    let row = shown (world_of p) c.args.conn c.args.table c.args.rid c.args.want in
    still-ok c.look_slot.result
    (answer_by (content_of p) c.args.conn c.args.table c.args.rid c.args.want (looks p.head (world_of p) c.args.conn c.args.table c.args.rid c.args.want)) row
    (by-shows (content_of p) c.requires.stands.stands c.args.conn c.args.table c.args.rid c.args.want
    (looks p.head (world_of p) c.args.conn c.args.table c.args.rid c.args.want)) c.look_slot.ensures.answer

pub returns-then-is_slot-clause-full : goal.returns-then-is_slot-clause-full
returns-then-is_slot-clause-full c =
    let p = c.args.parts.now in
    let w = world_of p in
    λ e. subst (λ (b : Bool). is_full p.head w (by_agent c.args.conn
    (if b then look_by p.head w c.args.conn c.args.table c.args.rid c.args.want (looks p.head w c.args.conn c.args.table c.args.rid c.args.want)
    else ScanEnd c.args.table (slots w c.args.table))) ≡ true)
    (sym c.if-is_slot.true ∙ c.is_slot.ensures) (c.look_slot.ensures.full e)
