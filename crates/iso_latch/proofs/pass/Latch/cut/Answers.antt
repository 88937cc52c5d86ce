use Rattle.std.proofs.Common.{arith, ◌≡◌, ℕ, true, subst}
use Rattle.iso_latch.specs.Seen.{has}
use Rattle.iso_latch.proofs.Steps.{split_allowed}
use Rattle.iso_latch.proofs.pass.Latch.cut.Goals as goal

pub split_seat-requires : goal.split_seat-requires
split_seat-requires g c = let v = c.requires.voice in (c.requires.of, omega (arith, c.args.self.now.sized.0), split_allowed g.S.Chronicle.head g.S.Chronicle.history _ _ _ _ g.K.Voice.voice v.1 (subst (λ (x : ℕ). has x c.args.seat.now.me.0.voices ≡ true) v.0 v.2))
