use Rattle.std.proofs.Common.{◌≤◌, length, arith, sym, length-take-le}
use Rattle.iso_types.proofs.cycle.Cycle.len.Goals as goal

pub returns-clause-number : goal.returns-clause-number
returns-clause-number c =
    let fits : c.self.inside.len ≤ length c.self.inside.members = omega arith in
    rw (← c.self.view_is) (sym (length-take-le c.self.inside.len c.self.inside.members fits))
