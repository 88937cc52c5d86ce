-- A change is past the log by the numbers of the units exactly where it is by those of the world.
use Rattle.std.proofs.Common.{◌≡◌, ℕ, length, ap, ◌∙◌}
use Rattle.std.specs.Prelude.{◌+◌, nat_le, unwrap_or}
use Rattle.iso_history.specs.Records.{is_in_window, is_past_log, oldest}
use Rattle.iso_history.specs.World.{World}
use Rattle.iso_log.specs.Journal.{is_past, is_within_window}
use Rattle.iso_types.specs.declared.head.Head.{Head}
use Rattle.iso_uow.specs.Book.{debt_of, oldest_of}
use Rattle.iso_chain.specs.Stands.{AreChained, Chained}
use Rattle.iso_chain.proofs.Debts.{debt-is}
use Rattle.iso_chain.proofs.Oldest.{oldest-is}
use Rattle.iso_chain.proofs.Records.{length-log}

pub past-is : (head : Head) (w : World) (p : Chained) → AreChained w p → length p.book.works ≡ length head.conns
    → is_past head.config.logmax (length p.log) (unwrap_or (oldest_of p.book.works) (length p.log)) (debt_of p.book.works) ≡ is_past_log head w
past-is head w p s same =
    let count : length p.log ≡ length w.records = length-log p.log w s.log in
    ap (λ n. is_past head.config.logmax n (unwrap_or (oldest_of p.book.works) n) (debt_of p.book.works)) count
    ∙ ap (λ n. is_past head.config.logmax (length w.records) n (debt_of p.book.works)) (oldest-is head w p.book.works same s.works)
    ∙ ap (λ n. is_past head.config.logmax (length w.records) (oldest head w) n) (debt-is head w p.book.works same s.works)

-- a record is in the window
pub window-is : (head : Head) (w : World) (p : Chained) (spare k : ℕ) → AreChained w p
    → is_within_window (record { records = p.log; spare = spare; window = head.config.window; logmax = head.config.logmax }) k ≡ is_in_window head w k
window-is head w p spare k s = ap (λ n. nat_le n (k + head.config.window)) (length-log p.log w s.log)
