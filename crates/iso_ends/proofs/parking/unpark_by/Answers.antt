use Rattle.iso_ends.proofs.parking.unpark_by.Goals as goal

pub returns-then-is_by : goal.returns-then-is_by
returns-then-is_by c = c.in_ok-unpark.ensures c.args.conn

pub returns : goal.returns
returns c = record { known = λ head w i k. k; none = c.is_by.ensures c.if-is_by.false }
