use Rattle.std.proofs.Common.{rules, arith, eqb}
use prog.Atomic.{either}
use Rattle.iso_latch.proofs.Steps.{door_allowed}
use Rattle.iso_latch.proofs.pass.Latch.go_in.Goals as goal

pub compare_exchange-requires : goal.compare_exchange-requires
compare_exchange-requires g c = (search rules, omega (arith, c.args.self.now.sized.0), door_allowed g.S.Chronicle.head g.S.Chronicle.history _ _ _ _ _ (λ n. either (eqb n 0) 1 n) 0 1)

pub swap-requires : goal.swap-requires
swap-requires g c = (search rules, omega (arith, c.args.self.now.sized.0), door_allowed g.S.Chronicle.head g.S.Chronicle.history _ _ _ _ _ (λ _. 2) 2 0)

pub park-requires : goal.park-requires
park-requires g c = omega (arith, c.args.self.now.sized.0)
