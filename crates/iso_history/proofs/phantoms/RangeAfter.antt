-- What a scan keeps, it keeps through every entry to its unit's end; and the entries of others change no slot in the part that it has passed.
use Rattle.std.proofs.Common.{◌≡◌, Bool, true, false, ◌&&◌, refl, sym, subst, Some}
use Rattle.iso_history.proofs.phantoms.EntriesAfter.{ordered-after}
use Rattle.iso_history.proofs.phantoms.FitAfter.{fit-after}
use Rattle.iso_history.proofs.phantoms.KeysStay.{piled-after}
use Rattle.iso_history.proofs.phantoms.Logged.{logged-after}
use Rattle.iso_history.proofs.phantoms.Names.{conn_is, conn_turned}
use Rattle.iso_history.proofs.phantoms.RangeOthers.{range-agent_other, range-dispatcher, slot_kept-others}
use Rattle.iso_history.proofs.phantoms.RangeOwn.{range-own, slot_kept-own}
use Rattle.iso_history.specs.After.{after}
use Rattle.iso_history.specs.Facts.{IsSound}
use Rattle.iso_history.specs.Gaps.{IsOrderly, IsRangeKept, is_plain, is_slot_kept}
use Rattle.iso_history.specs.Guards.{ends_unit, is_end, is_own}
use Rattle.iso_history.specs.Legal.{Allowed, By, ByAgent, ByDispatcher}
use Rattle.iso_history.specs.World.{World}
use Rattle.iso_history.specs.declared.entry.Act.{Act}
use Rattle.iso_history.specs.declared.entry.Act.TheVariants.{Commit, Delete, Insert, Undo, Update}
use Rattle.iso_history.specs.declared.entry.Entry.{Entry}
use Rattle.iso_history.specs.declared.entry.Stand.{Stand}
use Rattle.iso_history.specs.declared.entry.Who.{Who}
use Rattle.iso_history.specs.declared.entry.Who.TheVariants.{Agent, Dispatcher}
use Rattle.iso_types.specs.Head.{table_of_index}
use Rattle.iso_types.specs.Ids.{conn_eq}
use Rattle.iso_types.specs.declared.head.Head.{Head}
use Rattle.iso_types.specs.declared.head.Range.{Range}
use Rattle.iso_types.specs.declared.value.Conn.{Conn}
use Rattle.iso_types.specs.declared.value.IndexId.{IndexId}
use Rattle.iso_types.specs.declared.value.Rid.{Rid}
use Rattle.iso_types.specs.declared.value.TableId.{TableId}

-- the facts that the gaps rest on
pub orderly-after : (head : Head) (w : World) (e : Entry) → Allowed head w e → is_plain e.act ≡ true → IsOrderly w → IsOrderly (after head w e)
orderly-after head w e al plain orderly = record {
  fit = fit-after head w e al plain orderly.fit;
  ordered = ordered-after head w e orderly.ordered;
  piled = piled-after head w e orderly.piled;
  logged = logged-after head w e orderly.logged;
}

-- what a scan keeps, it keeps through an allowed entry that does not end its unit
pub range-after : (head : Head) (w : World) (e : Entry) → Allowed head w e → is_plain e.act ≡ true → IsSound head w → IsSound head (after head w e)
    → IsOrderly w
    → (c : Conn) (i : IndexId) (t : TableId) → table_of_index head i ≡ Some t → (range : Range) (stand : Stand) → ends_unit c e ≡ false
    → IsRangeKept w c i t range stand → IsRangeKept (after head w e) c i t range stand
range-after head w e al plain sound sa orderly c i t on range stand ends kept = go e.who al.2 sa ends
  where
    go : (who : Who) → By head w who e.act → IsSound head (after head w (record { who = who; act = e.act }))
        → (is_own c (record { who = who; act = e.act }) && is_end e.act) ≡ false
        → IsRangeKept (after head w (record { who = who; act = e.act })) c i t range stand
    go Dispatcher a sa ends = range-dispatcher head w orderly.ordered c i t on range stand kept e.act a
    go (Agent d) a sa ends = by (conn_eq d c) refl
      where
        by : (b : Bool) → conn_eq d c ≡ b → IsRangeKept (after head w (record { who = Agent d; act = e.act })) c i t range stand
        by false ne = range-agent_other head w sound orderly.fit orderly.logged orderly.ordered c i t on range stand kept d (conn_turned d c ne) e.act a.1
        by true same = subst (λ (k : Conn). IsRangeKept (after head w (record { who = Agent k; act = e.act })) c i t range stand) (sym (conn_is d c same))
            (range-own head w sound orderly.fit orderly.ordered c i t on range stand kept e.act
            (subst (λ (k : Conn). ByAgent head w k e.act) (conn_is d c same) a.1) plain (rw same at ends)
            (subst (λ (k : Conn). IsSound head (after head w (record { who = Agent k; act = e.act }))) (conn_is d c same) sa))

-- the dispatcher leaves slots and holds
dispatcher-slot : (head : Head) (w : World) (c : Conn) (t : TableId) (s : Rid) (a : Act) → ByDispatcher head w a → is_slot_kept w c t s ≡ true
    → is_slot_kept (after head w (record { who = Dispatcher; act = a })) c t s ≡ true
dispatcher-slot head w c t s (Insert x y row) al e = absurd al
dispatcher-slot head w c t s (Update x y row) al e = absurd al
dispatcher-slot head w c t s (Delete x y) al e = absurd al
dispatcher-slot head w c t s (Undo n) al e = absurd al
dispatcher-slot head w c t s Commit al e = absurd al
dispatcher-slot head w c t s _ al e = e

-- a slot that is kept, likewise
pub slot_kept-after : (head : Head) (w : World) (e : Entry) → Allowed head w e → is_plain e.act ≡ true → IsSound head w → IsSound head (after head w e)
    → IsOrderly w
    → (c : Conn) (t : TableId) (s : Rid) → ends_unit c e ≡ false → is_slot_kept w c t s ≡ true → is_slot_kept (after head w e) c t s ≡ true
slot_kept-after head w e al plain sound sa orderly c t s ends kept = go e.who al.2 sa ends
  where
    go : (who : Who) → By head w who e.act → IsSound head (after head w (record { who = who; act = e.act }))
        → (is_own c (record { who = who; act = e.act }) && is_end e.act) ≡ false
        → is_slot_kept (after head w (record { who = who; act = e.act })) c t s ≡ true
    go Dispatcher a sa ends = dispatcher-slot head w c t s e.act a kept
    go (Agent d) a sa ends = by (conn_eq d c) refl
      where
        by : (b : Bool) → conn_eq d c ≡ b → is_slot_kept (after head w (record { who = Agent d; act = e.act })) c t s ≡ true
        by false ne = slot_kept-others head w c d (conn_turned d c ne) e.act sound orderly.fit orderly.logged a.1 t s kept
        by true same = subst (λ (k : Conn). is_slot_kept (after head w (record { who = Agent k; act = e.act })) c t s ≡ true) (sym (conn_is d c same))
            (slot_kept-own head w sound orderly.fit c e.act (subst (λ (k : Conn). ByAgent head w k e.act) (conn_is d c same) a.1) plain (rw same at ends)
            (subst (λ (k : Conn). IsSound head (after head w (record { who = Agent k; act = e.act }))) (conn_is d c same) sa) t s kept)
