-- What a call leaves of the content, and of the lock list that it does not change.
use Rattle.std.proofs.Common.{◌≡◌, ◌∙◌, Err, Ok, OnErr, OnOk, Result, ap, refl, sym}
use Rattle.iso_locklist.specs.Places.{IsSameLimits, Ledger}
use Rattle.iso_state.specs.Changes.{relocked}
use Rattle.iso_state.specs.Stands.{Content}

-- what holds in any case holds at a fault
pub on-fault : {A E P : Type 0} (r : Result A E) → P → OnErr r P
on-fault (Ok a) p = tt
on-fault (Err f) p = p

-- what is written keeps the lock list that it has
pub relocked-own : {A E : Type 0} (r : Result A E) (n w : Content) → OnOk r (n ≡ w) → OnOk r (n ≡ relocked w n.locks)
relocked-own (Ok a) n w e = e ∙ ap (λ (l : Ledger). relocked w l) (sym (ap (λ (x : Content). x.locks) e))
relocked-own (Err f) n w e = e

like : (l m : Ledger) → l ≡ m → IsSameLimits l m
like l m e = record {
  share = ap (λ (x : Ledger). x.share) e;
  slots = ap (λ (x : Ledger). x.slots) e;
  index_tables = ap (λ (x : Ledger). x.index_tables) e;
}

-- the limits are the same, whether it was written or all is as before
pub same-limits : {A E : Type 0} (r : Result A E) (p n w : Content) → w.locks ≡ p.locks → OnOk r (n ≡ w) → OnErr r (n ≡ p)
    → IsSameLimits n.locks p.locks
same-limits (Ok a) p n w own wrote err = like n.locks p.locks (ap (λ (x : Content). x.locks) wrote ∙ own)
same-limits (Err f) p n w own wrote err = like n.locks p.locks (ap (λ (x : Content). x.locks) err)
