use Rattle.std.proofs.Common.{◌∙◌, ℕ, length, ap}
use Rattle.std.specs.Prelude.{unwrap_or}
use Rattle.iso_chain.proofs.Past.{past-is}
use Rattle.iso_log.specs.Journal.{is_past}
use Rattle.iso_state.specs.Stands.{content_of, world_of}
use Rattle.iso_uow.specs.Book.{debt_of, oldest_of}
use Rattle.iso_writes.proofs.changing.is_log_full.Goals as goal

pub returns : goal.returns
returns c =
    let p = c.args.parts.now in
    c.full.ensures
    ∙ ap (λ (n : ℕ). is_past p.log.logmax (length p.log.records) n c.debt.result) c.oldest_record.ensures
    ∙ ap (λ (n : ℕ). is_past p.log.logmax (length p.log.records) (unwrap_or (oldest_of p.units.works) (length p.log.records)) n) c.debt.ensures
    ∙ ap (λ (n : ℕ). is_past n (length p.log.records) (unwrap_or (oldest_of p.units.works) (length p.log.records)) (debt_of p.units.works)) c.requires.stands.bounds.logmax
    ∙ past-is p.head (world_of p) (content_of p).chain c.requires.stands.parts.chain c.requires.stands.works
