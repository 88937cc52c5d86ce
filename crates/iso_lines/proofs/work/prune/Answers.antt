use Rattle.std.proofs.Common.{◌<◌, length, arith}
use Rattle.std.proofs.lemmas.Option.{slice_get_within}
use Rattle.iso_lines.proofs.Pruned.{pruned-more, pruned-others, pruned-walked}
use Rattle.iso_lines.proofs.Released.{stands_within}
use Rattle.iso_lines.proofs.work.prune.Goals as goal

pub loop-at-preserved : goal.loop-at-preserved
loop-at-preserved c =
    let lt : c.loop-at.at < length c.args.walked.now.entries = omega (arith, c.loop-at-test.true, c.len-at-end.ensures.len) in
    let e = stands_within c.args.walked.now.entries c.loop-at.at lt in
    pruned-more c.args.walked.now.entries c.args.lines.now c.args.conn c.args.names.now.entries c.loop-at.names.entries c.prune_at.new.names.entries c.loop-at.at
    c.loop-at.invariant e.0 e.1 (c.prune_at.ensures.own e.0 e.1) (c.prune_at.ensures.others e.0 e.1) c.prune_at.ensures.fewer

pub returns-clause-walked : goal.returns-clause-walked
returns-clause-walked c =
    pruned-walked c.args.walked.now.entries c.args.lines.now c.args.conn c.args.names.now.entries c.loop-at.names.entries c.loop-at.at c.loop-at.invariant
    (λ i e g. let w = slice_get_within c.args.walked.now.entries i e g in omega (arith, w, c.loop-at-test.false, c.len-at-end.ensures.len))

pub returns-clause-others : goal.returns-clause-others
returns-clause-others c =
    pruned-others c.args.walked.now.entries c.args.lines.now c.args.conn c.args.names.now.entries c.loop-at.names.entries c.loop-at.at c.loop-at.invariant
    (λ i e g. let w = slice_get_within c.args.walked.now.entries i e g in omega (arith, w, c.loop-at-test.false, c.len-at-end.ensures.len))
