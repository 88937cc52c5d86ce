use Rattle.std.proofs.Common.{rules, arith, ◌≡◌, ℕ, ◌+◌, ◌<◌, ◌≤◌, List, [], ◌∷◌, ◌++◌, length, vec_len, refl, sym, ap, ◌∙◌, subst}
use Rattle.std.proofs.lemmas.Grind.{common_steps}
use Rattle.iso_history.specs.declared.entry.Entry.{Entry}
use Rattle.iso_latch.specs.Told.{seen_of, voices_of}
use Rattle.iso_threads.specs.Backs.{AllBack, AllPromised, CameBack}
use Rattle.iso_threads.specs.Kept.{Keeps}
use Rattle.iso_agent.specs.Passes.{IsPassOf}
use Rattle.iso_threads.specs.declared.backs.Back.{Back}
use Rattle.std.specs.declared.thread.PromisedHandle.{PromisedHandle}
use Rattle.iso_threads.specs.declared.backs.Driven.{Driven}
use Rattle.iso_threads.proofs.Firsts.{keeps-none}
use Rattle.iso_threads.proofs.Returned.{all-snoc, all_promised-snoc, begins_then, came_back}
use Rattle.iso_threads.proofs.Started.{Covers, all_covered, covers_child, covers_here, fresh_fewer}
use denote.Exit.{no}
use denote.Memory.{lone}
use denote.Param.{param}
use denote.Param.Send.{param_send, sendable, shr_send}
use denote.Ref.{ShrRef}
use lib.Chars.{codes}
use mir.Syntax.{named}
use Rattle.iso_agent.specs.contracts.bells.Bells as the_bells
use Rattle.iso_latch.specs.contracts.pass.Latch as a_latch
use Rattle.iso_script.specs.contracts.script.Script as a_script
use Rattle.iso_state.specs.contracts.state.State as a_state
use Rattle.iso_state.specs.contracts.state.StateChronicle.TheImpl.{ghosts}
use Rattle.iso_threads.proofs.Crossing.{closure_send}
use Rattle.iso_threads.proofs.Sends.{back_send, bells_sync, flags_sync, latch_sync, script_sync}
use Rattle.iso_threads.specs.contracts.backs.Back as a_back
use Rattle.iso_threads.specs.contracts.flags.Flags as the_flags
use Rattle.std.proofs.Crossing.{send}
use Rattle.std.specs.contracts.alloc.Global as the_heap
use Rattle.iso_threads.proofs.threads.fn.drive_all.scope.Lts as lts
use Rattle.iso_threads.proofs.threads.fn.drive_all.scope.Goals as goal

-- all that the thread's closure captures crosses
pub spawn_with-started-requires-send-F : goal.spawn_with-started-requires-send-F
spawn_with-started-requires-send-F g c κs within =
    let A = lts.arg-5-2 g.row.R g.row.G g.R.laws g.G.laws g.R.Threads-dict g.R.Wait-dict g.G.Gate-dict κs in
    param_send 2 A (closure_send (lone A.mir) no (codes "iso_threads::threads::fn::drive_all::fn::scope::spawn_with+Self") (
    a_back.the_row
    ∷ ShrRef (named 6) κs.1.1.1.1.1.1.0 (param 0 g.row.R)
    ∷ the_heap.the_row
    ∷ ShrRef (named 7) κs.1.1.1.1.1.1.1.0 (a_latch.the_row a_state.the_row ghosts)
    ∷ ShrRef (named 8) κs.1.1.1.1.1.1.1.1.0 a_script.the_row
    ∷ ShrRef (named 9) κs.1.1.1.1.1.1.1.1.1.0 (param 1 g.row.G)
    ∷ ShrRef (named 10) κs.1.1.1.1.1.1.1.1.1.1.0 the_bells.the_row
    ∷ ShrRef (named 11) κs.1.1.1.1.1.1.1.1.1.1.1.0 the_flags.the_row
    ∷ []
    ) (
      back_send,
      (
        shr_send _ _ _ c.requires.9,
        (
          send,
          (
            shr_send _ _ _ (latch_sync _),
            (
              shr_send _ _ _ script_sync,
              (
                shr_send _ _ _ c.requires.10,
                (shr_send _ _ _ bells_sync, (shr_send _ _ _ flags_sync, tt)),
              ),
            ),
          ),
        ),
      ),
    ))

pub spawn_with-started-requires-send-T : goal.spawn_with-started-requires-send-T
spawn_with-started-requires-send-T g c κs within = search (back_send, sendable) depth 20

pub undriven-back-requires : goal.undriven-back-requires
undriven-back-requires g c =
    let id = c.captures.latch.now.table.shared.table_id in
    let script = c.captures.script.now in
    let inv = c.loop-one.invariant in
    let count : length c.captures.passes.items ≡ length script.head.conns = c.requires.0.count in
    let items : c.loop-one.passes.items ≡ c.pop.new.self.items ++ c.in-Some.one ∷ [] = search rules in
    let f = fresh_fewer id script c.loop-one.passes.items c.pop.new.self.items c.in-Some.one items inv.fresh in
    let len : length c.pop.new.self.items ≡ c.len.result = search rules in
    let one : vec_len c.loop-one.passes ≡ vec_len c.pop.new.self + 1 = search rules in
    let fewer : vec_len c.loop-one.passes ≤ vec_len c.captures.passes = inv.fewer in
    record {
      pass = subst (λ (k : ℕ). IsPassOf id script (record { 0 = k }) c.in-Some.one) len f.1;
      within = subst (λ (k : ℕ). k < length script.head.conns) len (omega (arith, one, fewer, count));
      fresh = f.2;
    }

pub loop-one-preserved-in-Ok : goal.loop-one-preserved-in-Ok
loop-one-preserved-in-Ok g c =
    let inv = c.loop-one.invariant in
    let id = c.captures.latch.now.table.shared.table_id in
    let script = c.captures.script.now in
    let items : c.loop-one.passes.items ≡ c.pop.new.self.items ++ c.in-Some.one ∷ [] = c.in-Some.ensures.items in
    let pushed : c.push_reserved.new.self.items ≡ c.loop-one.children.items ++ c.in-Ok.child ∷ [] = c.push_reserved.ensures.items in
    let isb : c.in-Ok.child.promise.back.value ≡ c.undriven-back.result = (first_of (search rules, grind (arith, common_steps))) in
    let iss : c.in-Ok.child.promise.script.value ≡ script = (first_of (search rules, grind (arith, common_steps))) in
    let at : c.undriven-back.result.conn.0 ≡ vec_len c.pop.new.self = search rules in
    let one : vec_len c.loop-one.passes ≡ vec_len c.pop.new.self + 1 = search rules in record {
      fewer = search rules;
      fresh = (fresh_fewer id script c.loop-one.passes.items c.pop.new.self.items c.in-Some.one items inv.fresh).0;
      here = inv.here;
      children = subst (AllPromised id script) (sym pushed) (all_promised-snoc id script c.loop-one.children.items c.in-Ok.child inv.children
          (ap (λ (b : Back). b.pass.seat.table_id) isb ∙ c.undriven-back.ensures.id) iss);
      room_here = search rules;
      len_here = search rules;
      room_children = search rules;
      cover = subst (λ (hs : List (PromisedHandle Back Driven)). Covers (vec_len c.pop.new.self) (vec_len c.captures.passes) hs
          c.loop-one.here.items) (sym pushed)
          (covers_child (vec_len c.loop-one.passes) (vec_len c.pop.new.self) (vec_len c.captures.passes) c.loop-one.children.items c.in-Ok.child
          c.loop-one.here.items one (ap (λ (b : Back). b.conn.0) isb ∙ at) inv.cover);
    }

pub loop-one-preserved : goal.loop-one-preserved
loop-one-preserved g c =
    let inv = c.loop-one.invariant in
    let id = c.captures.latch.now.table.shared.table_id in
    let script = c.captures.script.now in
    let items : c.loop-one.passes.items ≡ c.pop.new.self.items ++ c.in-Some.one ∷ [] = c.in-Some.ensures.items in
    let pushed : c.push_reserved-in-Err.new.self.items ≡ c.loop-one.here.items ++ c.spawn_with.result ∷ [] = c.push_reserved-in-Err.ensures.items in
    let came : CameBack c.undriven-back.result script c.spawn_with.result = search rules in
    let at : c.undriven-back.result.conn.0 ≡ vec_len c.pop.new.self = search rules in
    let one : vec_len c.loop-one.passes ≡ vec_len c.pop.new.self + 1 = search rules in record {
      fewer = search rules;
      fresh = (fresh_fewer id script c.loop-one.passes.items c.pop.new.self.items c.in-Some.one items inv.fresh).0;
      here = subst (AllBack id script) (sym pushed) (all-snoc id script c.loop-one.here.items c.spawn_with.result inv.here
          (came_back id script script c.undriven-back.result c.spawn_with.result c.undriven-back.ensures.id refl came));
      children = inv.children;
      room_here = search rules;
      len_here = search rules;
      room_children = search rules;
      cover = subst (λ (bs : List Back). Covers (vec_len c.pop.new.self) (vec_len c.captures.passes) c.loop-one.children.items bs) (sym pushed)
          (covers_here (vec_len c.loop-one.passes) (vec_len c.pop.new.self) (vec_len c.captures.passes) c.loop-one.children.items
          c.loop-one.here.items c.spawn_with.result one (ap (λ (z : _). z.0) came.0 ∙ at) inv.cover);
    }

pub lead-pass-requires : goal.lead-pass-requires
lead-pass-requires g c =
    let inv = c.loop-one.invariant in
    let ready = c.requires.0 in
    let script = c.captures.script.now in
    record {
      sound = c.requires.8;
      pass = ready.host;
      keep = λ x h. subst (λ (es : List Entry). Keeps script x es) (sym ready.fresh) (keeps-none script x);
      none = ready.fresh;
      all = inv.here;
      empty = c.requires.3;
      room = search rules;
      place = search rules;
    }

pub returns : goal.returns
returns g c =
    let inv = c.loop-one.invariant in
    let ready = c.requires.0 in
    let none : vec_len c.loop-one.passes ≡ 0 = search rules in
    let n : ℕ = vec_len c.captures.passes in
    let cover : Covers 0 n c.loop-one.children.items c.loop-one.here.items =
    subst (λ (m : ℕ). Covers m n c.loop-one.children.items c.loop-one.here.items) none inv.cover in
    record {
      host = c.join_all.ensures.pass;
      keep = c.join_all.ensures.keep;
      all = all_covered n c.loop-one.children.items c.loop-one.here.items c.lead-pass.result.1.items (voices_of c.lead-pass.result.0.seat)
          (voices_of c.take_all-pass.result.seat) (voices_of c.join_all.result.seat) cover c.lead-pass.ensures.voices
          c.lead-pass.ensures.pass.voice c.take_all-pass.ensures.voices c.join_all.ensures.voices;
      finished = (
        seen_of c.lead-pass.result.0.seat,
        c.lead-pass.ensures.finished,
        begins_then (seen_of c.lead-pass.result.0.seat) (seen_of c.take_all-pass.result.seat) (seen_of c.join_all.result.seat)
            c.take_all-pass.ensures.begins c.join_all.ensures.begins,
      );
    }
