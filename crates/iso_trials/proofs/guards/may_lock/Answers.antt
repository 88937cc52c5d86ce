use Rattle.std.proofs.Common.{◌≡◌, ◌∙◌, subst, sym, true}
use Rattle.iso_history.specs.Requests.{may_ask}
use Rattle.iso_state.specs.Stands.{world_of}
use Rattle.iso_types.specs.declared.value.Name.{Name}
use Rattle.iso_trials.proofs.Known.{row-asked}
use Rattle.iso_trials.proofs.guards.may_lock.Goals.{then-is_slot, else-is_slot}
use Rattle.iso_trials.proofs.guards.may_lock.Goals as goal

pub returns-then-is_of_rows : goal.returns-then-is_of_rows
returns-then-is_of_rows c =
    let p = c.args.parts.now in
    elim c.if-is_slot.branch [
      | then-is_slot w ↦
          let suits : w.is_of_rows.result ≡ true = cc (w.value-is, c.if-is_of_rows.true) in
          λ held. subst (λ (n : Name). may_ask p.head (world_of p) c.args.conn n c.args.mode ≡ true) (sym c.in-Row.is)
          (row-asked p.head (world_of p) c.args.conn c.in-Row.table (sym c.holds_table.ensures ∙ held) c.in-Row.rid c.args.mode
          (sym c.is_slot.ensures ∙ w.if-is_slot.true) (w.is_of_rows.ensures suits))
      | else-is_slot w ↦ absurd (cc (w.value-is, c.if-is_of_rows.true))
    ]
