use Rattle.std.proofs.Common.{rules, arith}
use Rattle.iso_latch.proofs.Steps.{door_allowed}
use Rattle.iso_latch.proofs.pass.Latch.go_out.Goals as goal

pub swap-requires : goal.swap-requires
swap-requires g c = (search rules, omega (arith, c.args.self.now.sized.0), door_allowed g.S.Chronicle.head g.S.Chronicle.history _ _ _ _ _ (λ _. 0) 0 0)
