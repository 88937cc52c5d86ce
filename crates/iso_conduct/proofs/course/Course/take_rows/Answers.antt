use Rattle.std.proofs.Common.{◌≡◌, ◌∙◌, refl, subst, sym, []}
use Rattle.iso_conduct.specs.Courses.{haul_of, pairs_of, staged, with_front}
use Rattle.iso_conduct.specs.Points.{rows_by}
use Rattle.iso_conduct.proofs.Replies.{no-rows}
use Rattle.iso_conduct.proofs.course.Course.take_rows.Goals as goal

pub returns-in_default-stage : goal.returns-in_default-stage
returns-in_default-stage c = record {
  rows = c.new.ensures ∙ subst (λ f. [] ≡ rows_by (haul_of c.args.self.now.statement c.args.self.now.tally c.args.self.now.rows (pairs_of c.args.self.now.found)) (with_front c.args.self.now.walk.table f (staged c.args.self.now))) (sym c.in-Nothing.is) (no-rows (haul_of c.args.self.now.statement c.args.self.now.tally c.args.self.now.rows (pairs_of c.args.self.now.found)) c.args.self.now c.requires.at c.in_default-stage.not-Answer);
  none = sym (subst (λ f. [] ≡ rows_by (haul_of c.args.self.now.statement c.args.self.now.tally c.args.self.now.rows (pairs_of c.args.self.now.found)) (with_front c.args.self.now.walk.table f (staged c.args.self.now))) (sym c.in-Nothing.is) (no-rows (haul_of c.args.self.now.statement c.args.self.now.tally c.args.self.now.rows (pairs_of c.args.self.now.found)) c.args.self.now c.requires.at c.in_default-stage.not-Answer));
  rest = refl;
  sound = c.requires;
}
