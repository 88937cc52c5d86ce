-- A history that has finished, and the parts of what a run on threads shows.
use Rattle.std.proofs.Common.{◌≡◌, ℕ, suc, ◌<◌, ◌≤◌, true, not, List, [], ◌∷◌, ◌++◌, length, refl, sym, ap, ◌∙◌, subst, arith, append-nil, Some}
use Rattle.std.proofs.lemmas.Bool.{both_ways, ltb-true}
use lib.ListN.{get_elem?}
use mathlib.Core.Option.{some}
use Rattle.atomic_table.specs.Seated.{TableId}
use Rattle.iso_conduct.specs.Legal.{IsFinished, IsLegal}
use Rattle.iso_history.specs.After.{after, start, world, world_from}
use Rattle.iso_history.specs.Legal.{Ground, GroundFrom}
use Rattle.iso_history.specs.World.{World}
use Rattle.iso_history.specs.declared.entry.Entry.{Entry}
use Rattle.iso_latch.specs.Dealt.{Dealt, Fresh}
use Rattle.iso_latch.specs.Told.{head_of, seen_of}
use Rattle.iso_latch.specs.declared.pass.Pass.{Pass}
use Rattle.iso_script.specs.declared.script.Script.{Script}
use Rattle.iso_serial.proofs.Ends.{finished-last}
use Rattle.iso_state.specs.declared.state.State.{State}
use Rattle.iso_threads.specs.Kept.{HasFinished}
use Rattle.iso_threads.specs.Passes.{AllFresh, HasMet}
use Rattle.iso_types.specs.declared.head.Head.{Head}

-- nothing comes after the end
none_after : (head : Head) (w : World) (es rest : List Entry) → GroundFrom head w (es ++ rest)
    → (world_from head w es).pace.finished ≡ true → rest ≡ []
unfolding GroundFrom world_from
none_after head w [] [] g f = refl
none_after head w [] (r ∷ rs) g f = absurd (both_ways (not w.pace.finished) (ap not f) g.0.0)
none_after head w (e ∷ es) rest g f = none_after head (after head w e) es rest g.1 f

none_behind : (head : Head) (es rest : List Entry) → Ground head (es ++ rest) → (world head es).pace.finished ≡ true → rest ≡ []
unfolding Ground world
none_behind head es rest g f = none_after head (start head) es rest g f

-- a history that has finished somewhere ends with Finish
pub finished-of : (script : Script) (es : List Entry) → Ground script.head es → HasFinished script es → IsFinished es
finished-of script es g f =
    let g2 : Ground script.head (f.0 ++ f.2.0) = subst (Ground script.head) f.2.1 g in
    let none = none_behind script.head f.0 f.2.0 g2 f.1 in
    let whole : es ≡ f.0 = f.2.1 ∙ (ap (λ l. f.0 ++ l) none ∙ append-nil f.0) in
    finished-last script.head es g (ap (λ l. (world script.head l).pace.finished) whole ∙ f.1)

-- what each author has kept to, together
pub legal-of : (id : TableId) (script : Script) (n : ℕ) (p : Pass State) (es : List Entry) → HasMet id script n p → es ≡ seen_of p.seat
    → Ground script.head es → length script.head.conns ≤ n → IsLegal script es
legal-of id script n p es m is g few = record {
  ground = g;
  conduct = λ c known.
      let lt : c.0 < length script.head.conns = ltb-true c.0 (length script.head.conns) known in
      rw is (m.keep (suc c.0) (m.all (suc c.0) (omega (arith, lt, few))));
  paced = rw is (m.keep 0 (m.all 0 (omega arith)));
}

-- the passes that were dealt are fresh
pub fresh-dealt : (id other : TableId) (script : Script) (p : Pass State) (ps : List (Pass State)) → other ≡ id → Dealt other ps
    → Fresh p.seat ps → head_of p.seat ≡ Some script.head → seen_of p.seat ≡ [] → AllFresh id script ps
fresh-dealt id other script p ps at d f head none k q e =
    (record { of = (d k q e).0 ∙ at; head = (f k q e).0 ∙ head; voice = (d k q e).1 }, (f k q e).1 ∙ none)
