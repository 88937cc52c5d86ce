-- One more entry of the dispatcher, and the lines that are left then.
use Rattle.std.proofs.Common.{◌≡◌, List, [], ◌∷◌, ◌++◌, drop, sym, ap, ◌∙◌, subst}
use Rattle.iso_conduct.proofs.Snoc.{Paced-snoc, lines_left-snoc}
use Rattle.iso_conduct.specs.Pacing.{MayPace, lines_after_act, lines_left}
use Rattle.iso_director.proofs.UntiedAlong.{untied-as}
use Rattle.iso_director.specs.Director.{HasTaken}
use Rattle.iso_director.specs.declared.director.Director.{Director}
use Rattle.iso_director.specs.Turns.{HasMade}
use Rattle.iso_director.specs.Untied.{WasAcyclic}
use Rattle.iso_director.specs.declared.director.Led.{Led}
use Rattle.iso_director.specs.declared.director.Led.TheVariants.{Ended, Ran, Rests}
use Rattle.iso_ends.proofs.DoubtsKept.{kept-as}
use Rattle.iso_ends.specs.Doubts.{AreKept}
use Rattle.iso_history.specs.After.{world}
use Rattle.iso_history.specs.Makers.{by_agent, by_dispatcher}
use Rattle.iso_history.specs.declared.entry.Act.{Act}
use Rattle.iso_history.specs.declared.entry.Entry.{Entry}
use Rattle.iso_script.specs.declared.script.Line.{Line}
use Rattle.iso_script.specs.declared.script.Script.{Script}
use Rattle.iso_types.specs.declared.value.Conn.{Conn}

-- the dispatcher's act, at the lines that are left
pub taken-snoc : (script : Script) (es fs : List Entry) (d g : Director) (a : Act) → HasTaken script es d → fs ≡ es ++ by_dispatcher a ∷ []
    → MayPace script.head (world script.head es) (drop d.taken script.lines) a → lines_after_act (drop d.taken script.lines) a ≡ drop g.taken script.lines
    → AreKept script.head es g.doubts → WasAcyclic script.head es g.acyclic → HasTaken script fs g
taken-snoc script es fs d g a t is may left kept acyclic = record {
  paced = rw is (Paced-snoc script.head script.lines es (by_dispatcher a) t.paced
      (subst (λ (ls : List Line). MayPace script.head (world script.head es) ls a) (sym t.left) may));
  left = ap (lines_left script.lines) is
      ∙ (lines_left-snoc script.lines es (by_dispatcher a) ∙ (ap (λ (ls : List Line). lines_after_act ls a) t.left ∙ left));
  kept = kept-as script.head es fs (by_dispatcher a ∷ []) g.doubts is kept;
  acyclic = untied-as script.head es fs (by_dispatcher a ∷ []) g.acyclic is acyclic;
}

-- an agent's entry takes no line
pub taken-agent : (script : Script) (es fs : List Entry) (d : Director) (c : Conn) (a : Act) → HasTaken script es d → fs ≡ es ++ by_agent c a ∷ []
    → HasTaken script fs d
taken-agent script es fs d c a t is = record {
  paced = rw is (Paced-snoc script.head script.lines es (by_agent c a) t.paced tt);
  left = ap (lines_left script.lines) is ∙ (lines_left-snoc script.lines es (by_agent c a) ∙ t.left);
  kept = kept-as script.head es fs (by_agent c a ∷ []) d.doubts is t.kept;
  acyclic = untied-as script.head es fs (by_agent c a ∷ []) d.acyclic is t.acyclic;
}

-- a turn
pub made-taken : (script : Script) (es fs : List Entry) (d g : Director) (r : Led) → HasTaken script es d
    → HasMade script.head (world script.head es) (drop d.taken script.lines) (drop g.taken script.lines) es fs r → AreKept script.head es g.doubts
    → WasAcyclic script.head es g.acyclic → HasTaken script fs g
made-taken script es fs d g Ran t made kept acyclic = taken-snoc script es fs d g made.0 t made.1 made.2.paces made.2.left kept acyclic
made-taken script es fs d g Rests t made kept acyclic = record {
  paced = rw made.2 t.paced;
  left = rw made.2 (t.left ∙ sym made.1);
  kept = subst (λ (x : List Entry). AreKept script.head x g.doubts) (sym made.2) kept;
  acyclic = subst (λ (x : List Entry). WasAcyclic script.head x g.acyclic) (sym made.2) acyclic;
}
made-taken script es fs d g Ended t made kept acyclic = absurd made
