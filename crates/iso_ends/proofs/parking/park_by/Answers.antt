use Rattle.std.proofs.Common.{List, ap, refl}
use Rattle.iso_ends.specs.Doubts.{Known}
use Rattle.iso_key.specs.Pages.{entries}
use Rattle.iso_types.specs.declared.value.Rid.{Rid}
use Rattle.iso_types.specs.declared.value.Value.{Value}
use Rattle.iso_ends.proofs.parking.park_by.Goals as goal

pub returns-in-Ok-clause-parked : goal.returns-in-Ok-clause-parked
returns-in-Ok-clause-parked c e =
    record { pairs = c.remove.ensures.entries; keys = refl; parked = c.in-Ok.ensures.entries; by = c.with-doubt.ensures }

pub returns-in-Err-clause-same : goal.returns-in-Err-clause-same
returns-in-Err-clause-same c e =
    let d = c.args.doubt.now in
    let with : List (List (Value × Rid)) → Known = λ ps. record { pairs = entries d.pairs; keys = d.keys; parked = entries ps; by = d.by } in
    ap with c.in-Err.ensures.err
