use Rattle.std.proofs.Common.{rules, arith, ◌≡◌, ℕ, ◌<◌, length, List, [], ◌∷◌, Option, Some, sym, ap, ◌∙◌, subst}
use Rattle.atomic_table.specs.Table.{opening}
use Rattle.iso_latch.specs.Seen.{has, below}
use Rattle.iso_latch.specs.Rule.{Rule, opening_view}
use Rattle.iso_latch.proofs.Steps.{starts}
use Rattle.iso_latch.proofs.Voices.{length-below, below_has}
use Rattle.iso_latch.proofs.pass.Latch.new.Goals as goal

pub new-requires : goal.new-requires
new-requires g c = let items : c.push.new.self.items ≡ Some c.args.first ∷ [] = search rules in let h = g.S.Chronicle.head c.of.result.value in let first : c.args.first ≡ c.of.result.value = search rules in
    subst (λ (xs : List (Option g.row.S.Denot)). Rule g.S.Chronicle.head g.S.Chronicle.history c.args.seats h (opening (0 ∷ 0 ∷ 0 ∷ 0 ∷ []) xs (opening_view c.args.seats h))) (sym items)
    (starts g.S.Chronicle.head g.S.Chronicle.history c.args.seats h c.args.first (omega (arith, c.ranges.seats)) (ap g.S.Chronicle.head first) c.requires.empty)

pub invariant_of-result-2 : goal.invariant_of-result-2
invariant_of-result-2 g c = let me = c.in-Ok.ensures.ok.4 in record { idle = ap (λ m. m.0.stage) me; empty = ap (λ m. m.1) me; some_voice = let e : c.in-Ok.seat.me.0.voices ≡ below c.args.seats = ap (λ m. m.0.voices) me in subst (λ (v : List ℕ). 0 < length v) (sym e) (subst (λ (n : ℕ). 0 < n) (sym (length-below c.args.seats)) c.requires.seats) }

pub returns-clause-all : goal.returns-clause-all
returns-clause-all g c = λ x l. ap (λ m. has x m.0.voices) c.in-Ok.ensures.ok.4 ∙ below_has c.args.seats x l
