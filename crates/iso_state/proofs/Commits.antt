-- What a commit writes into slots and units, and what it takes off the debt.
use Rattle.std.proofs.Common.{◌≡◌, ◌<◌, ◌+◌, ◌∙◌, ℕ, List, length, ap, arith, None}
use Rattle.std.proofs.Math.ListN.{length-set}
use Rattle.iso_chain.proofs.Commits.{commit-chained}
use Rattle.iso_chain.proofs.Debts.{debt-is}
use Rattle.iso_chain.specs.Stands.{AreChained}
use Rattle.iso_chain.specs.Writes.{committed}
use Rattle.iso_history.proofs.limits.Debts.{debt-by}
use Rattle.iso_history.specs.After.{after, world}
use Rattle.iso_history.specs.Legal.{Runs}
use Rattle.iso_history.specs.Makers.{by_agent}
use Rattle.iso_history.specs.Records.{debt, left, left_of}
use Rattle.iso_history.specs.Units.{unit_of}
use Rattle.iso_history.specs.declared.entry.Act.TheVariants.{Commit}
use Rattle.iso_history.specs.declared.entry.Who.TheVariants.{Agent}
use Rattle.iso_types.specs.declared.value.Conn.{Conn}
use Rattle.iso_uow.specs.Book.{debt_of, with_work}
use Rattle.iso_state.proofs.FactsAlong.{apart-of, debt-of, kept-of, none_left-of, sound-of, unit-of, within-of}
use Rattle.iso_state.proofs.Steps.{conn-is}
use Rattle.iso_state.specs.Stands.{Content, Stands}

-- it stands for the world after the entry
pub committed-stands : (p : Content) (c : Conn) → Stands p → Runs (world p.head p.history) c
    → AreChained (after p.head (world p.head p.history) (by_agent c Commit))
    (committed p.chain c (left (world p.head p.history).records (unit_of (world p.head p.history) c)))
committed-stands p c s runs =
    commit-chained p.head (world p.head p.history) p.chain c (unit_of (world p.head p.history) c) s.parts.chain (kept-of s) (sound-of s).pending
    (unit-of s c runs.0)

-- it takes what the unit has left off the debt
pub commit-left : (p : Content) (c : Conn) → Stands p → c.0 < length p.head.conns → Runs (world p.head p.history) c
    → debt_of (with_work p.chain.book.works c None) + length (left_of (world p.head p.history) c) ≡ debt_of p.chain.book.works
commit-left p c s lt runs =
    let w = world p.head p.history in
    let move = debt-by p.head w (Agent c) Commit (conn-is p.head c lt, runs) (apart-of s) (within-of s).course (none_left-of s) in
    let now = debt-is p.head (after p.head w (by_agent c Commit)) (with_work p.chain.book.works c None)
    (length-set p.chain.book.works c.0 None ∙ s.works) (committed-stands p c s runs).works in
    sums _ _ _ _ _ move now (debt-of s)
  where
    sums : (a b x n m : ℕ) → a + x ≡ b + 0 → n ≡ a → m ≡ b → n + x ≡ m
    sums a b x n m e f g = omega (arith, e, f, g)
