use Rattle.iso_conduct.proofs.Fitting.{key-fits, reads-fit}
use Rattle.iso_conduct.proofs.laws.shown_rows_suit.Goals as goal

pub returns-clause-reads : goal.returns-clause-reads
returns-clause-reads c = reads-fit

pub returns-clause-key : goal.returns-clause-key
returns-clause-key c = key-fits
