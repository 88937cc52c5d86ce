use Rattle.std.proofs.Common.{◌∙◌, ℕ, List, ◌++◌, ap, sym}
use Rattle.std.proofs.lemmas.List.{append-nil}
use Rattle.iso_record.proofs.Restored.{old-differs, old-same}
use Rattle.iso_record.proofs.olds.push_old.Goals as goal
use Rattle.iso_types.proofs.Values.{value-test}
use Rattle.iso_types.specs.declared.value.Value.{Value}

pub returns-in_ok-push : goal.returns-in_ok-push
returns-in_ok-push c =
    let test = value-test c.args.old.now c.args.new.now c.is_same.result c.is_same.ensures ∙ c.if-not-is_same.true in
    c.in_ok-push.ensures.ok ∙ ap (λ (l : List (ℕ × Value)). c.args.list.now ++ l) (sym (old-differs c.args.column c.args.old.now c.args.new.now test))

pub returns-else-not-is_same : goal.returns-else-not-is_same
returns-else-not-is_same c =
    let test = value-test c.args.old.now c.args.new.now c.is_same.result c.is_same.ensures ∙ c.if-not-is_same.false in
    sym (append-nil c.args.list.now)
    ∙ ap (λ (l : List (ℕ × Value)). c.args.list.now ++ l) (sym (old-same c.args.column c.args.old.now c.args.new.now test))
