-- After Finish all connections have ended.
use Rattle.std.proofs.Common.{◌≡◌, ℕ, ◌<◌, Bool, true, false, ◌||◌, List, refl, sym, subst, arith, length, get_or}
use Rattle.std.proofs.lemmas.Bool.{ltb-true}
use Rattle.std.proofs.lemmas.List.Folds.{list_all_at}
use Rattle.std.proofs.lemmas.List.FromFn.{get_or-map-range_with_len, length-map-range_with_len}
use Rattle.std.specs.List.{list_all}
use Rattle.iso_history.proofs.Snoc.{along}
use Rattle.iso_history.proofs.limits.Totals.{not-true}
use Rattle.iso_history.specs.After.{after, world}
use Rattle.iso_history.specs.Legal.{By, Ground}
use Rattle.iso_history.specs.Paces.{is_finish}
use Rattle.iso_history.specs.Quiet.{all_ended}
use Rattle.iso_history.specs.World.{World}
use Rattle.iso_history.specs.declared.entry.Act.{Act}
use Rattle.iso_history.specs.declared.entry.Entry.{Entry}
use Rattle.iso_history.specs.declared.entry.Who.{Who}
use Rattle.iso_history.specs.declared.entry.Who.TheVariants.{Agent, Dispatcher}
use Rattle.iso_types.specs.Head.{conns, is_conn}
use Rattle.iso_types.specs.declared.head.Head.{Head}
use Rattle.iso_types.specs.declared.value.Conn.{Conn}

abbrev place : ℕ → Conn
place x = record { 0 = x }

-- what all connections of the head pass, each passes
each : (head : Head) (p : Conn → Bool) (c : Conn) → is_conn head c ≡ true → list_all p (conns head) ≡ true → p c ≡ true
each head p c known all = go (p c) refl
  where
    within : c.0 < length head.conns
    within = ltb-true c.0 (length head.conns) known

    long : c.0 < length (conns head)
    long = rw (length-map-range_with_len place 0 (length head.conns)) within

    at : get_or (conns head) c.0 c ≡ c
    at = get_or-map-range_with_len place 0 (length head.conns) c.0 c.0 c within (omega arith)

    go : (b : Bool) → p c ≡ b → p c ≡ true
    go true h = h
    go false h =
        let n : list_all p (conns head) ≡ false = list_all_at p (conns head) c.0 c long (subst (λ x. p x ≡ false) (sym at) h) in
        absurd (cc)

-- where Finish stands all have ended
abbrev EndsAll : Head → World → Type 0
EndsAll head w = w.pace.finished ≡ true → all_ended head w ≡ true

was-not : (b : Bool) → b ≡ false → b ≡ true → (P : Type 0) → P
was-not b e f P = absurd (cc)

finish-ends : (head : Head) (w : World) (who : Who) (a : Act) → w.pace.finished ≡ false → By head w who a
    → EndsAll head (after head w (record { who = who; act = a }))
finish-ends head w Dispatcher Act.Finish going by = λ e. by
finish-ends head w Dispatcher a going by = λ e. last a by e
  where
    last : (a : Act) → By head w Dispatcher a → (is_finish a || w.pace.finished) ≡ true → all_ended head (after head w (record { who = Dispatcher; act = a })) ≡ true
    last Act.Finish by e = by
    last _ by e = was-not w.pace.finished going e _
finish-ends head w (Agent c) a going by = λ e. was-not w.pace.finished going e _

ends-along : (head : Head) (es : List Entry) → Ground head es → EndsAll head (world head es)
ends-along head es g = along head (EndsAll head) (λ w e al p. finish-ends head w e.who e.act (not-true w.pace.finished al.0) al.2) es (λ e. absurd (cc)) g

-- while a connection has not ended, no Finish stands
pub going-on : (head : Head) (es : List Entry) (c : Conn) → Ground head es → is_conn head c ≡ true → (world head es).ended c ≡ false
    → (world head es).pace.finished ≡ false
going-on head es c g known alive = go (world head es).pace.finished refl
  where
    go : (b : Bool) → (world head es).pace.finished ≡ b → (world head es).pace.finished ≡ false
    go false e = e
    go true e =
        let f : (world head es).ended c ≡ true = each head (world head es).ended c known (ends-along head es g e) in
        absurd (cc)
