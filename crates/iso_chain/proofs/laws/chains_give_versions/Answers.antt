use Rattle.iso_history.specs.Versions.{versions}
use Rattle.iso_chain.specs.Slots.{face, slot_in}
use Rattle.iso_chain.proofs.Chains.{chain-committed, chain-shows}
use Rattle.iso_chain.proofs.Pinned.{pin-chain, pin-committed, pin-order, pin-within}
use Rattle.iso_chain.proofs.Records.{all-back}
use Rattle.iso_chain.proofs.laws.chains_give_versions.Goals as goal

pub returns : goal.returns
returns c w p s kept t r =
    let back = all-back p.log w (versions w t r) s.log (kept.recorded.each t r) in
    let slot = s.slots.each t r in (
      (
        (λ k le. chain-shows p.log (versions w t r) (face (slot_in p.tables t r)) k back slot.face le),
        chain-committed p.log (versions w t r) (face (slot_in p.tables t r)) back slot.face,
      ),
      (λ first head least last. (
        pin-order w p.log t r (slot_in p.tables t r) first head s.log kept.recorded kept.piled slot last least,
        pin-within w p.log t r (slot_in p.tables t r) first head s.log kept.recorded kept.piled slot last least,
        pin-chain w p.log t r (slot_in p.tables t r) first head s.log kept.recorded kept.piled slot last least,
        pin-committed w p.log t r (slot_in p.tables t r) first head s.log kept.recorded kept.piled slot last least,
      )),
    )
