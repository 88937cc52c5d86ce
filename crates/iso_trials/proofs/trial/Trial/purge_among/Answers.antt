use Rattle.iso_trials.proofs.trial.Trial.purge_among.Goals as goal

pub purge_and_ask-requires-clause-kept : goal.purge_and_ask-requires-clause-kept
purge_and_ask-requires-clause-kept c = c.new-doubts.ensures c.self.inside.parts.head c.self.inside.parts.history.items
