use Rattle.std.proofs.Common.{ℕ, Option, subst, sym}
use Rattle.iso_serial.specs.Seeds.{IsScheduled}
use Rattle.iso_serial.proofs.run.run_by.Goals as goal

pub returns-in-None-clause-scheduled : goal.returns-in-None-clause-scheduled
returns-in-None-clause-scheduled c =
    let script = c.args.script.now in
    let es = c.run_turns.new.parts.history.items in
    subst (λ (s : Option ℕ). IsScheduled script.head script.lines s es) (sym c.in-None.is) (λ n le. c.run_turns.ensures.scheduled)

pub returns-in-Some-clause-scheduled : goal.returns-in-Some-clause-scheduled
returns-in-Some-clause-scheduled c =
    let script = c.args.script.now in
    let es = c.run_seeded.new.parts.history.items in
    subst (λ (s : Option ℕ). IsScheduled script.head script.lines s es) (sym c.in-Some.is) c.run_seeded.ensures.scheduled
