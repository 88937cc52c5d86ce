-- An agent between two turns: it is one once it has settled, and stays one while others make entries.
use Rattle.std.proofs.Common.{◌≡◌, true, List, ◌++◌, Option, sym, ◌∙◌, refl, subst}
use Rattle.iso_agent.proofs.Running.{running-stays}
use Rattle.iso_agent.specs.Fits.{Fits, HasRebuilt, HasSettled, HasTold, IsRested, Reaches, is_settled, told_list, told_to, wants_in}
use Rattle.iso_agent.specs.declared.agent.Kept.{Kept}
use Rattle.iso_agent.specs.declared.agent.Kept.TheVariants.{Answer, Nothing, Rebuild, Stop}
use Rattle.iso_conduct.proofs.Others.{fit-others, kept-others}
use Rattle.iso_conduct.specs.Conduct.{AreOthers, Conduct, point}
use Rattle.iso_conduct.specs.Points.{Point}
use Rattle.iso_conduct.specs.declared.moves.Told.{Told}
use Rattle.iso_history.specs.After.{world}
use Rattle.iso_history.specs.Legal.{Ground}
use Rattle.iso_history.specs.Phases.{phase}
use Rattle.iso_history.specs.declared.entry.Entry.{Entry}
use Rattle.iso_rebuild.specs.declared.past.Past.{Past}
use Rattle.iso_script.specs.declared.script.Line.{Line}
use Rattle.iso_script.specs.declared.script.Script.{Script}
use Rattle.iso_types.specs.declared.desk.Phase.TheVariants.{Running}
use Rattle.iso_types.specs.declared.head.Head.{Head}
use Rattle.iso_types.specs.declared.value.Conn.{Conn}

-- an agent that was told what its step has kept, or could not be
fits-told : (head : Head) (lines : List Line) (es : List Entry) (c : Conn) (task after : Option Point) (ts : List Told) (last : Kept)
    → told_to task ts ≡ point head lines es c → (wants_in task ts ≡ true → phase (world head es) c ≡ Running) → HasTold task ts after last
    → Fits head lines es c after last
fits-told head lines es c task after ts Nothing is runs told = record { reaches = told ∙ is; runs = λ e. absurd (cc) }
fits-told head lines es c task after ts Stop is runs told = record { reaches = tt; runs = λ e. runs told }
fits-told head lines es c task after ts (Answer t queued) is runs told = absurd told
fits-told head lines es c task after ts (Rebuild past) is runs told = absurd told

fits-rebuilt : (head : Head) (lines : List Line) (es : List Entry) (c : Conn) (task after : Option Point) (past : Past) (last : Kept)
    → Fits head lines es c task (Rebuild past) → HasRebuilt task past after last → Fits head lines es c after last
fits-rebuilt head lines es c task after past Nothing f told = record { reaches = told.2 ∙ f.reaches told.0 told.1; runs = λ e. absurd (cc) }
fits-rebuilt head lines es c task after past Stop f told = record { reaches = tt; runs = λ e. f.runs refl }
fits-rebuilt head lines es c task after past (Answer t queued) f told = absurd told
fits-rebuilt head lines es c task after past (Rebuild other) f told = absurd told

fits-settled : (head : Head) (lines : List Line) (es : List Entry) (c : Conn) (task after : Option Point) (kept last : Kept)
    → Fits head lines es c task kept → HasSettled task kept after last → Fits head lines es c after last
fits-settled head lines es c task after Nothing last f s =
    subst (λ (z : Option Point × Kept). Fits head lines es c z.0 z.1) (λ i. (sym s.0 i, sym s.1 i)) f
fits-settled head lines es c task after (Answer t queued) last f s =
    fits-told head lines es c task after (told_list t queued) last f.reaches f.runs s
fits-settled head lines es c task after (Rebuild past) last f s = fits-rebuilt head lines es c task after past last f s
fits-settled head lines es c task after Stop last f s =
    subst (λ k. Fits head lines es c after k) (sym s) (record { reaches = tt; runs = λ e. f.runs refl })

-- a settled agent fits the history at which its step was told
pub settled-rested : (script : Script) (es : List Entry) (c : Conn) (task after : Option Point) (kept last : Kept)
    → Fits script.head script.lines es c task kept → Conduct script.head script.lines es c → HasSettled task kept after last
    → is_settled last ≡ true → IsRested script es c after last
settled-rested script es c task after kept last fits conduct settled done = record {
  fits = fits-settled script.head script.lines es c task after kept last fits settled;
  settled = done;
  conduct = conduct;
}

-- what others do leaves it so
pub rested-on : (script : Script) (es fs : List Entry) (c : Conn) (task : Option Point) (kept : Kept)
    → IsRested script es c task kept → Ground script.head (es ++ fs) → AreOthers c fs → IsRested script (es ++ fs) c task kept
rested-on script es fs c task kept r g n = record {
  fits = record {
    reaches = subst (λ o. Reaches task kept o) (sym (fit-others script.head script.lines c es fs n)) r.fits.reaches;
    runs = λ e. running-stays script.head c es fs g n (r.fits.runs e);
  };
  settled = r.settled;
  conduct = kept-others script.head script.lines c es fs n r.conduct;
}
