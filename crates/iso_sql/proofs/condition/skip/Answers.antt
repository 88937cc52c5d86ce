use Rattle.std.proofs.Common.{true, false, ◌+◌, ◌-◌, sym, ap, ◌∙◌, arith}
use Rattle.iso_sql.specs.Names.{names_of}
use Rattle.iso_sql.specs.ConditionReading.{scan}
use Rattle.iso_sql.proofs.ScanSteps.{opens, compares, joins_and, joins_or, closed}
use Rattle.iso_sql.proofs.condition.skip.Goals as goal
use Rattle.iso_sql.proofs.condition.skip.Goals.{then-wants+in_ok-maybe_not+then-sees+in_ok-expect, then-wants+in_ok-maybe_not+else-sees+in_ok-comparison, else-wants+else-open-eq0+then-sees-2+in_ok-expect-2, else-wants+else-open-eq0+else-sees-2+then-sees-3+in_ok-expect-3, else-wants+else-open-eq0+else-sees-2+else-sees-3+in_ok-expect-4}

pub loop-turn-preserved : goal.loop-turn-preserved
loop-turn-preserved c = elim c.if-wants.branch [
  | then-wants+in_ok-maybe_not+then-sees+in_ok-expect w ↦ record {
    few = omega (arith, w.open-is, c.loop-turn.invariant.few);
    same = rw (w.wants-is, w.tokens-is) (ap (λ v. scan (names_of c.args.scope.now) (c.args.bound - (c.loop-turn._turn + 1)) c.if-wants.open v w.expect.new.self.rest) w.if-wants.true ∙ opens (names_of c.args.scope.now) c.args.bound c.loop-turn._turn c.loop-turn-test.true c.loop-turn.open c.if-wants.open c.loop-turn.wants c.loop-turn.tokens.rest w.maybe_not.new.tokens.rest w.expect.new.self.rest w.in_ok-maybe_not.field-0 w.in_ok-expect.field-0 w.if-wants.true w.open-is w.in_ok-maybe_not.ensures.0 (sym w.sees.ensures ∙ w.if-sees.true) w.in_ok-expect.ensures.0 ∙ c.loop-turn.invariant.same);
    most = rw w.tokens-is (w.in_ok-expect.ensures.1 ∙ w.in_ok-maybe_not.ensures.1 ∙ c.loop-turn.invariant.most);
  }
  | then-wants+in_ok-maybe_not+else-sees+in_ok-comparison w ↦ record {
    few = omega (arith, w.open-is, c.loop-turn.invariant.few);
    same = rw (w.wants-is, w.tokens-is) (ap (λ z. scan (names_of c.args.scope.now) (c.args.bound - (c.loop-turn._turn + 1)) z false w.comparison.new.tokens.rest) w.open-is ∙ compares (names_of c.args.scope.now) c.args.bound c.loop-turn._turn c.loop-turn-test.true c.loop-turn.open c.loop-turn.wants c.loop-turn.tokens.rest w.maybe_not.new.tokens.rest w.comparison.new.tokens.rest w.in_ok-maybe_not.field-0 w.in_ok-comparison.field-0 w.if-wants.true w.in_ok-maybe_not.ensures.0 (sym w.sees.ensures ∙ w.if-sees.false) w.in_ok-comparison.ensures.0 ∙ c.loop-turn.invariant.same);
    most = rw w.tokens-is (w.in_ok-comparison.ensures.1 ∙ w.in_ok-maybe_not.ensures.1 ∙ c.loop-turn.invariant.most);
  }
  | else-wants+else-open-eq0+then-sees-2+in_ok-expect-2 w ↦ record {
    few = omega (arith, w.open-is, c.loop-turn.invariant.few);
    same = rw (w.wants-is, w.tokens-is) (ap (λ z. scan (names_of c.args.scope.now) (c.args.bound - (c.loop-turn._turn + 1)) z true w.expect-then-sees-2.new.self.rest) w.open-is ∙ joins_and (names_of c.args.scope.now) c.args.bound c.loop-turn._turn c.loop-turn-test.true c.loop-turn.open c.loop-turn.wants c.loop-turn.tokens.rest w.expect-then-sees-2.new.self.rest w.in_ok-expect-2.field-0 w.if-wants.false (omega arith) (sym w.sees-else-open-eq0.ensures ∙ w.if-sees-2.true) w.in_ok-expect-2.ensures.0 ∙ c.loop-turn.invariant.same);
    most = rw w.tokens-is (w.in_ok-expect-2.ensures.1 ∙ c.loop-turn.invariant.most);
  }
  | else-wants+else-open-eq0+else-sees-2+then-sees-3+in_ok-expect-3 w ↦ record {
    few = omega (arith, w.open-is, c.loop-turn.invariant.few);
    same = rw (w.wants-is, w.tokens-is) (ap (λ z. scan (names_of c.args.scope.now) (c.args.bound - (c.loop-turn._turn + 1)) z true w.expect-then-sees-3.new.self.rest) w.open-is ∙ joins_or (names_of c.args.scope.now) c.args.bound c.loop-turn._turn c.loop-turn-test.true c.loop-turn.open c.loop-turn.wants c.loop-turn.tokens.rest w.expect-then-sees-3.new.self.rest w.in_ok-expect-3.field-0 w.if-wants.false (omega arith) (sym w.sees-else-open-eq0.ensures ∙ w.if-sees-2.false) (sym w.sees-else-sees-2.ensures ∙ w.if-sees-3.true) w.in_ok-expect-3.ensures.0 ∙ c.loop-turn.invariant.same);
    most = rw w.tokens-is (w.in_ok-expect-3.ensures.1 ∙ c.loop-turn.invariant.most);
  }
  | else-wants+else-open-eq0+else-sees-2+else-sees-3+in_ok-expect-4 w ↦ record {
    few = omega (arith, w.open-is, c.loop-turn.invariant.few);
    same = rw (w.wants-is, w.tokens-is) (ap (λ v. scan (names_of c.args.scope.now) (c.args.bound - (c.loop-turn._turn + 1)) c.if-wants.open v w.expect-else-sees-3.new.self.rest) w.if-wants.false ∙ closed (names_of c.args.scope.now) c.args.bound c.loop-turn._turn c.loop-turn-test.true c.loop-turn.open c.if-wants.open c.loop-turn.wants c.loop-turn.tokens.rest w.expect-else-sees-3.new.self.rest w.in_ok-expect-4.field-0 w.if-wants.false (omega arith) w.open-is (sym w.sees-else-open-eq0.ensures ∙ w.if-sees-2.false) (sym w.sees-else-sees-2.ensures ∙ w.if-sees-3.false) w.in_ok-expect-4.ensures.0 ∙ c.loop-turn.invariant.same);
    most = rw w.tokens-is (w.in_ok-expect-4.ensures.1 ∙ c.loop-turn.invariant.most);
  }
]
