use Rattle.iso_chain.proofs.Kept.{may-delete, may-insert, may-undo, may-update}
use Rattle.iso_chain.proofs.laws.entries_give_writes.Goals as goal

pub returns-clause-undo : goal.returns-clause-undo
returns-clause-undo c = λ head w d n s. may-undo head w s d n

pub returns-clause-insert : goal.returns-clause-insert
returns-clause-insert c = λ head w d t r row s. may-insert head w s d t r row

pub returns-clause-update : goal.returns-clause-update
returns-clause-update c = λ head w d t r row s l. may-update head w s d t r row l

pub returns-clause-delete : goal.returns-clause-delete
returns-clause-delete c = λ head w d t r s l. may-delete head w s d t r l
