use Rattle.iso_locklist.proofs.NewNames.{new_granted}
use Rattle.iso_locklist.proofs.list.LockList.request_kept.Goals as goal

pub returns-clause-lists : goal.returns-clause-lists
returns-clause-lists c = λ hs xs are idle new.
    (c.in_ok-request_at.ensures.lists hs xs are idle).granted_are (new_granted hs xs c.args.name.now new c.args.conn idle c.args.mode)
