use Rattle.std.proofs.Common.{List, Some}
use Rattle.iso_record.specs.Undone.{all_undone}
use Rattle.iso_record.specs.declared.record.Record.{Record}
use Rattle.iso_rebuild.specs.Chains.{IsChain}
use Rattle.iso_rebuild.proofs.Rebuilds.{Goes, depth}
use Rattle.iso_rebuild.proofs.past.rebuild.Given as goal

abbrev pub invariant-loop-at : goal.invariant-loop-at
invariant-loop-at l = (whole : List Record) → IsChain l.pin (Some l.head) whole
    → Goes l.pin l.at (record { row = l.row; live = l.live }) (all_undone whole (record { row = l.initial.row; live = l.initial.live }))

abbrev pub decreases-loop-at : goal.decreases-loop-at
decreases-loop-at l = depth l.at
