use Rattle.iso_agent.proofs.Rested.{rested-on, settled-rested}
use Rattle.iso_agent.proofs.laws.agents_rest.Goals as goal

pub returns-clause-settled : goal.returns-clause-settled
returns-clause-settled c = settled-rested

pub returns-clause-others : goal.returns-clause-others
returns-clause-others c = rested-on
