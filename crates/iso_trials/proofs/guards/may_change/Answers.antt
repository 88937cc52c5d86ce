use Rattle.std.proofs.Common.{◌≡◌, ◌∙◌, sym, true}
use Rattle.iso_state.specs.Stands.{content_of}
use Rattle.iso_trials.proofs.Known.{change-stands}
use Rattle.iso_trials.proofs.guards.may_change.Goals.{then-holds_table, else-holds_table}
use Rattle.iso_trials.proofs.guards.may_change.Goals as goal

pub returns-then-holds_row : goal.returns-then-holds_row
returns-then-holds_row c =
    elim c.if-holds_table.branch [
      | then-holds_table w ↦
          let holds : w.holds_row.result ≡ true = cc (w.value-is, c.if-holds_row.true) in
          λ live. change-stands (content_of c.args.parts.now) c.requires.stands.stands c.args.conn c.args.table c.args.rid
          (sym c.holds_table.ensures ∙ w.if-holds_table.true) (sym w.holds_row.ensures ∙ holds) (c.is_live.ensures live)
      | else-holds_table w ↦ absurd (cc (w.value-is, c.if-holds_row.true))
    ]
