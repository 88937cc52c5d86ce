use Rattle.iso_trials.proofs.trial.Trial.purgeable_among.Goals as goal

pub purgeable_among-requires-clause-kept : goal.purgeable_among-requires-clause-kept
purgeable_among-requires-clause-kept c = c.new-doubts.ensures c.self.inside.parts.head c.self.inside.parts.history.items
