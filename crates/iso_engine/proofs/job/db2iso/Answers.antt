use Rattle.std.proofs.Common.{subst, sym, ◌∙◌}
use Rattle.iso_engine.proofs.Aims.{came-answered, came-complete, came-order, came-outcome, check-aim, named-job, run-aim, same-mix, serial-aim}
use Rattle.iso_engine.proofs.Complete.{mixed-whole}
use Rattle.iso_engine.proofs.Order.{generate-order, mix-order, usage-order}
use Rattle.iso_engine.specs.Job.{IsMixed}
use Rattle.iso_engine.specs.declared.job.Aim.TheVariants.{Count, Run}
use Rattle.iso_generate.specs.Generated.{generated}
use Rattle.iso_words.specs.Table.{job_of, texts}
use Rattle.iso_words.specs.declared.parts.Job.{Job}
use Rattle.iso_engine.proofs.job.db2iso.Goals as goal

pub returns-in-None-clause-order : goal.returns-in-None-clause-order
returns-in-None-clause-order g c =
    usage-order (job_of (texts c.args.words.now)) (g.S.Source.left c.args.source.now) (g.S.Source.left c.args.source.now) _ _
    c.without_run.result.status c.without_run.result.history.items (sym c.read_words.ensures.scanned ∙ c.in-None.is) c.without_run.ensures.status

pub returns-in-Some-Run-clause-order : goal.returns-in-Some-Run-clause-order
returns-in-Some-Run-clause-order g c =
    let j = named-job _ (job_of (texts c.args.words.now)) _ (Job.Run c.in-Some-Run.trace) c.read_words.ensures.scanned c.in-Some-Run.is c.in-Some-Run.field-0-is in
    came-order (g.S.Source.left c.args.source.now) (g.S.Source.left c.tell_source.new.source) (g.K.Sink.held c.args.sink.now) (g.K.Sink.held c.tell_source.new.sink)
    c.tell_source.result.status c.tell_source.result.history.items (job_of (texts c.args.words.now)) (Run c.course_of-course.result) (run-aim _ c.in-Some-Run.trace _ j c.course_of-course.ensures) c.tell_source.ensures.outcome
    _ _ c.tell_source.ensures.source_fault c.tell_source.ensures.sink_fault

pub returns-in-Some-Run-clause-answered : goal.returns-in-Some-Run-clause-answered
returns-in-Some-Run-clause-answered g c = λ course e all told.
    let j = named-job _ (job_of (texts c.args.words.now)) _ (Job.Run c.in-Some-Run.trace) c.read_words.ensures.scanned c.in-Some-Run.is c.in-Some-Run.field-0-is in
    came-answered (g.S.Source.left c.args.source.now) (g.S.Source.left c.tell_source.new.source) (g.K.Sink.held c.args.sink.now) (g.K.Sink.held c.tell_source.new.sink)
    c.tell_source.result.status c.tell_source.result.history.items (job_of (texts c.args.words.now)) (Run c.course_of-course.result) (run-aim _ c.in-Some-Run.trace _ j c.course_of-course.ensures) c.tell_source.ensures.outcome
    course e all told

pub returns-in-Some-Run-clause-complete : goal.returns-in-Some-Run-clause-complete
returns-in-Some-Run-clause-complete g c = λ aim e all told script is source sink.
    let j = named-job _ (job_of (texts c.args.words.now)) _ (Job.Run c.in-Some-Run.trace) c.read_words.ensures.scanned c.in-Some-Run.is c.in-Some-Run.field-0-is in
    came-complete (g.S.Source.left c.args.source.now) (g.S.Source.left c.tell_source.new.source) (g.K.Sink.held c.args.sink.now) (g.K.Sink.held c.tell_source.new.sink)
    c.tell_source.result.status c.tell_source.result.history.items (job_of (texts c.args.words.now)) (Run c.course_of-course.result) (run-aim _ c.in-Some-Run.trace _ j c.course_of-course.ensures) c.tell_source.ensures.outcome
    aim e all told script is (λ f. source (c.tell_source.ensures.source_fault f)) (λ f. sink (c.tell_source.ensures.sink_fault f))

pub returns-in-Some-Serial-clause-order : goal.returns-in-Some-Serial-clause-order
returns-in-Some-Serial-clause-order g c =
    let j = named-job _ (job_of (texts c.args.words.now)) _ (Job.Serial c.in-Some-Serial.seed c.in-Some-Serial.trace) c.read_words.ensures.scanned c.in-Some-Serial.is c.in-Some-Serial.field-0-is in
    came-order (g.S.Source.left c.args.source.now) (g.S.Source.left c.tell_source-in-Some-Serial.new.source) (g.K.Sink.held c.args.sink.now) (g.K.Sink.held c.tell_source-in-Some-Serial.new.sink)
    c.tell_source-in-Some-Serial.result.status c.tell_source-in-Some-Serial.result.history.items (job_of (texts c.args.words.now)) (Run c.course_of-course-in-Some-Serial.result) (serial-aim _ c.in-Some-Serial.seed c.in-Some-Serial.trace _ j c.course_of-course-in-Some-Serial.ensures) c.tell_source-in-Some-Serial.ensures.outcome
    _ _ c.tell_source-in-Some-Serial.ensures.source_fault c.tell_source-in-Some-Serial.ensures.sink_fault

pub returns-in-Some-Serial-clause-answered : goal.returns-in-Some-Serial-clause-answered
returns-in-Some-Serial-clause-answered g c = λ course e all told.
    let j = named-job _ (job_of (texts c.args.words.now)) _ (Job.Serial c.in-Some-Serial.seed c.in-Some-Serial.trace) c.read_words.ensures.scanned c.in-Some-Serial.is c.in-Some-Serial.field-0-is in
    came-answered (g.S.Source.left c.args.source.now) (g.S.Source.left c.tell_source-in-Some-Serial.new.source) (g.K.Sink.held c.args.sink.now) (g.K.Sink.held c.tell_source-in-Some-Serial.new.sink)
    c.tell_source-in-Some-Serial.result.status c.tell_source-in-Some-Serial.result.history.items (job_of (texts c.args.words.now)) (Run c.course_of-course-in-Some-Serial.result) (serial-aim _ c.in-Some-Serial.seed c.in-Some-Serial.trace _ j c.course_of-course-in-Some-Serial.ensures) c.tell_source-in-Some-Serial.ensures.outcome
    course e all told

pub returns-in-Some-Serial-clause-complete : goal.returns-in-Some-Serial-clause-complete
returns-in-Some-Serial-clause-complete g c = λ aim e all told script is source sink.
    let j = named-job _ (job_of (texts c.args.words.now)) _ (Job.Serial c.in-Some-Serial.seed c.in-Some-Serial.trace) c.read_words.ensures.scanned c.in-Some-Serial.is c.in-Some-Serial.field-0-is in
    came-complete (g.S.Source.left c.args.source.now) (g.S.Source.left c.tell_source-in-Some-Serial.new.source) (g.K.Sink.held c.args.sink.now) (g.K.Sink.held c.tell_source-in-Some-Serial.new.sink)
    c.tell_source-in-Some-Serial.result.status c.tell_source-in-Some-Serial.result.history.items (job_of (texts c.args.words.now)) (Run c.course_of-course-in-Some-Serial.result) (serial-aim _ c.in-Some-Serial.seed c.in-Some-Serial.trace _ j c.course_of-course-in-Some-Serial.ensures) c.tell_source-in-Some-Serial.ensures.outcome
    aim e all told script is (λ f. source (c.tell_source-in-Some-Serial.ensures.source_fault f)) (λ f. sink (c.tell_source-in-Some-Serial.ensures.sink_fault f))

pub returns-in-Some-Check-clause-order : goal.returns-in-Some-Check-clause-order
returns-in-Some-Check-clause-order g c =
    let j = named-job _ (job_of (texts c.args.words.now)) _ Job.Check c.read_words.ensures.scanned c.in-Some-Check.is c.in-Some-Check.field-0-is in
    came-order (g.S.Source.left c.args.source.now) (g.S.Source.left c.tell_source-in-Some-Check.new.source) (g.K.Sink.held c.args.sink.now) (g.K.Sink.held c.tell_source-in-Some-Check.new.sink)
    c.tell_source-in-Some-Check.result.status c.tell_source-in-Some-Check.result.history.items (job_of (texts c.args.words.now)) Count (check-aim _ j) c.tell_source-in-Some-Check.ensures.outcome
    _ _ c.tell_source-in-Some-Check.ensures.source_fault c.tell_source-in-Some-Check.ensures.sink_fault

pub returns-in-Some-Check-clause-complete : goal.returns-in-Some-Check-clause-complete
returns-in-Some-Check-clause-complete g c = λ aim e all told script is source sink.
    let j = named-job _ (job_of (texts c.args.words.now)) _ Job.Check c.read_words.ensures.scanned c.in-Some-Check.is c.in-Some-Check.field-0-is in
    came-complete (g.S.Source.left c.args.source.now) (g.S.Source.left c.tell_source-in-Some-Check.new.source) (g.K.Sink.held c.args.sink.now) (g.K.Sink.held c.tell_source-in-Some-Check.new.sink)
    c.tell_source-in-Some-Check.result.status c.tell_source-in-Some-Check.result.history.items (job_of (texts c.args.words.now)) Count (check-aim _ j) c.tell_source-in-Some-Check.ensures.outcome
    aim e all told script is (λ f. source (c.tell_source-in-Some-Check.ensures.source_fault f)) (λ f. sink (c.tell_source-in-Some-Check.ensures.sink_fault f))

pub returns-in-Some-Generate-clause-order : goal.returns-in-Some-Generate-clause-order
returns-in-Some-Generate-clause-order g c =
    let j = named-job _ (job_of (texts c.args.words.now)) _ (Job.Generate c.in-Some-Generate.seed c.in-Some-Generate.count) c.read_words.ensures.scanned c.in-Some-Generate.is
    c.in-Some-Generate.field-0-is in
    generate-order (job_of (texts c.args.words.now)) (g.S.Source.left c.args.source.now) (g.S.Source.left c.args.source.now) _ _
    c.make.result.status c.make.result.history.items c.in-Some-Generate.seed c.in-Some-Generate.count j
    (generated c.in-Some-Generate.seed c.in-Some-Generate.count) (g.K.Sink.held c.args.sink.now) (g.K.Sink.held c.make.new.sink)
    c.make.ensures.said c.make.ensures.fault

pub returns-in-Some-Mix-clause-order : goal.returns-in-Some-Mix-clause-order
returns-in-Some-Mix-clause-order g c =
    let j = named-job _ (job_of (texts c.args.words.now)) _ (Job.Mix c.in-Some-Mix.seed c.in-Some-Mix.count) c.read_words.ensures.scanned c.in-Some-Mix.is c.in-Some-Mix.field-0-is in
    mix-order (job_of (texts c.args.words.now)) (g.S.Source.left c.args.source.now) (g.S.Source.left c.args.source.now) _ _
    c.mix.result.status c.mix.result.history.items c.in-Some-Mix.seed c.in-Some-Mix.count j
    (g.K.Sink.held c.args.sink.now) (g.K.Sink.held c.mix.new.sink) c.mix.ensures.mixed c.mix.ensures.fault

pub returns-in-Some-Mix-clause-mixed_whole : goal.returns-in-Some-Mix-clause-mixed_whole
returns-in-Some-Mix-clause-mixed_whole g c = λ seed count named script is sink.
    let j = named-job _ (job_of (texts c.args.words.now)) _ (Job.Mix c.in-Some-Mix.seed c.in-Some-Mix.count) c.read_words.ensures.scanned c.in-Some-Mix.is c.in-Some-Mix.field-0-is in
    let same = same-mix _ c.in-Some-Mix.seed c.in-Some-Mix.count seed count j named in
    mixed-whole seed count c.mix.result.status c.mix.result.history.items (g.K.Sink.held c.args.sink.now) (g.K.Sink.held c.mix.new.sink)
    (subst (λ n. IsMixed n count c.mix.result.status c.mix.result.history.items (g.K.Sink.held c.args.sink.now) (g.K.Sink.held c.mix.new.sink)) same.0
    (subst (λ m. IsMixed c.in-Some-Mix.seed m c.mix.result.status c.mix.result.history.items (g.K.Sink.held c.args.sink.now) (g.K.Sink.held c.mix.new.sink)) same.1
    c.mix.ensures.mixed))
    script is (λ f. sink (c.mix.ensures.fault f))

pub returns-in-Some-Run-clause-outcome : goal.returns-in-Some-Run-clause-outcome
returns-in-Some-Run-clause-outcome g c = λ aim e.
    let j = named-job _ (job_of (texts c.args.words.now)) _ (Job.Run c.in-Some-Run.trace) c.read_words.ensures.scanned c.in-Some-Run.is c.in-Some-Run.field-0-is in
    came-outcome (g.S.Source.left c.args.source.now) (g.S.Source.left c.tell_source.new.source) (g.K.Sink.held c.args.sink.now) (g.K.Sink.held c.tell_source.new.sink)
    c.tell_source.result.status c.tell_source.result.history.items (job_of (texts c.args.words.now)) (Run c.course_of-course.result) (run-aim _ c.in-Some-Run.trace _ j c.course_of-course.ensures) c.tell_source.ensures.outcome
    aim e

pub returns-in-Some-Serial-clause-outcome : goal.returns-in-Some-Serial-clause-outcome
returns-in-Some-Serial-clause-outcome g c = λ aim e.
    let j = named-job _ (job_of (texts c.args.words.now)) _ (Job.Serial c.in-Some-Serial.seed c.in-Some-Serial.trace) c.read_words.ensures.scanned c.in-Some-Serial.is c.in-Some-Serial.field-0-is in
    came-outcome (g.S.Source.left c.args.source.now) (g.S.Source.left c.tell_source-in-Some-Serial.new.source) (g.K.Sink.held c.args.sink.now) (g.K.Sink.held c.tell_source-in-Some-Serial.new.sink)
    c.tell_source-in-Some-Serial.result.status c.tell_source-in-Some-Serial.result.history.items (job_of (texts c.args.words.now)) (Run c.course_of-course-in-Some-Serial.result) (serial-aim _ c.in-Some-Serial.seed c.in-Some-Serial.trace _ j c.course_of-course-in-Some-Serial.ensures) c.tell_source-in-Some-Serial.ensures.outcome
    aim e

pub returns-in-Some-Check-clause-outcome : goal.returns-in-Some-Check-clause-outcome
returns-in-Some-Check-clause-outcome g c = λ aim e.
    let j = named-job _ (job_of (texts c.args.words.now)) _ Job.Check c.read_words.ensures.scanned c.in-Some-Check.is c.in-Some-Check.field-0-is in
    came-outcome (g.S.Source.left c.args.source.now) (g.S.Source.left c.tell_source-in-Some-Check.new.source) (g.K.Sink.held c.args.sink.now) (g.K.Sink.held c.tell_source-in-Some-Check.new.sink)
    c.tell_source-in-Some-Check.result.status c.tell_source-in-Some-Check.result.history.items (job_of (texts c.args.words.now)) Count (check-aim _ j) c.tell_source-in-Some-Check.ensures.outcome
    aim e

pub returns-in-Some-Mix-clause-mixed : goal.returns-in-Some-Mix-clause-mixed
returns-in-Some-Mix-clause-mixed g c = λ seed count named.
    let j = named-job _ (job_of (texts c.args.words.now)) _ (Job.Mix c.in-Some-Mix.seed c.in-Some-Mix.count) c.read_words.ensures.scanned c.in-Some-Mix.is c.in-Some-Mix.field-0-is in
    let same = same-mix _ c.in-Some-Mix.seed c.in-Some-Mix.count seed count j named in
    subst (λ n. IsMixed n count c.mix.result.status c.mix.result.history.items (g.K.Sink.held c.args.sink.now) (g.K.Sink.held c.mix.new.sink)) same.0
    (subst (λ m. IsMixed c.in-Some-Mix.seed m c.mix.result.status c.mix.result.history.items (g.K.Sink.held c.args.sink.now) (g.K.Sink.held c.mix.new.sink)) same.1
    c.mix.ensures.mixed)
