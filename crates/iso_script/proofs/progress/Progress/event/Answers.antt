use Rattle.std.proofs.Common.{refl, Ok, Err}
use Rattle.iso_script.proofs.ReadLaws.{judged, is_event, is_wrong}
use Rattle.iso_script.proofs.progress.Progress.event.Goals as goal

pub returns-in-Ok-verdict : goal.returns-in-Ok-verdict
returns-in-Ok-verdict c =
    is_event c.args.self.now.reader c.args.line.now c.in-Ok-verdict.event (Ok c.in-Ok-verdict.event) refl
    (judged c.args.self.now.reader c.args.line.now c.args.found.now c.in-Ok.said (Ok c.in-Ok-verdict.event) c.requires.same c.in-Ok-verdict.ensures c.in-Ok.ensures)

pub returns-in-Err : goal.returns-in-Err
returns-in-Err c = (
  refl,
  is_wrong c.args.self.now.reader c.args.line.now c.in-Err.cause (Err c.in-Err.cause) refl
      (judged c.args.self.now.reader c.args.line.now c.args.found.now c.in-Ok.said (Err c.in-Err.cause) c.requires.same c.in-Err.ensures c.in-Ok.ensures),
)
