-- What a turn of the dispatcher leaves.
use Rattle.std.proofs.Common.{◌≡◌, ℕ, zero, suc, true, cond, ne_eqb, ◌||◌, false, List, [], ◌∷◌, ◌++◌, sym, ap, ◌∙◌, subst, arith, append-nil}
use Rattle.iso_agent.proofs.Entering.{Grown}
use Rattle.iso_conduct.specs.Pacing.{lines_left}
use Rattle.iso_director.proofs.UntiedAlong.{untied-as}
use Rattle.iso_director.specs.Director.{HasLed, HasTaken, has_ended}
use Rattle.iso_director.specs.declared.director.Director.{Director}
use Rattle.iso_director.specs.declared.director.Led.{Led}
use Rattle.iso_director.specs.declared.director.Led.TheVariants.{Ended, Ran, Rests}
use Rattle.iso_ends.proofs.DoubtsKept.{kept-as}
use Rattle.iso_history.specs.After.{world}
use Rattle.iso_history.specs.Makers.{by_dispatcher}
use Rattle.iso_history.specs.declared.entry.Act.{Act}
use Rattle.iso_history.specs.declared.entry.Entry.{Entry}
use Rattle.iso_latch.specs.Seen.{Continues, has, own}
use Rattle.iso_script.specs.declared.script.Script.{Script}
use Rattle.iso_threads.proofs.Others.{Paced-others, all-on, keeps-others, lines-others, one_of}
use Rattle.iso_threads.specs.Kept.{AllKeep, Keeps}
use Rattle.iso_types.specs.declared.head.Head.{Head}

-- an entry of the dispatcher is no agent's
no_agent : (c : ℕ) (a : Act) → own (suc c ∷ []) (by_dispatcher a ∷ []) ≡ []
no_agent c a = ap (λ b. cond (b || false) (by_dispatcher a ∷ []) []) (ne_eqb 0 (suc c) (λ is. absurd (omega arith)))

keeps_led : (script : Script) (c : ℕ) (old new : List Entry) (led : Led) → HasLed old new led → Keeps script (suc c) old
    → Keeps script (suc c) new
keeps_led script c old new Ran l k = subst (Keeps script (suc c)) (sym l.1)
    (keeps-others script (suc c) old (by_dispatcher l.0 ∷ []) (no_agent c l.0) k)
keeps_led script c old new Rests l k = subst (Keeps script (suc c)) (sym l) k
keeps_led script c old new Ended l k = subst (Keeps script (suc c)) (sym l) k

all-led : (script : Script) (vs : List ℕ) (old new : List Entry) (led : Led) (d : Director) → HasLed old new led → HasTaken script new d
    → AllKeep script vs old → AllKeep script vs new
all-led script vs old new led d l t k zero h = t.paced
all-led script vs old new led d l t k (suc c) h = keeps_led script c old new led l (k (suc c) h)

-- others' entries take no line
taken-on : (script : Script) (vs : List ℕ) (seen log : List Entry) (g : Director) → has 0 vs ≡ true → Continues vs seen log
    → HasTaken script seen g → HasTaken script log g
taken-on script vs seen log g h c t =
    let d = one_of 0 vs seen log h c in
    record {
      paced = rw d.1 (Paced-others script.head script.lines seen d.0 d.2 t.paced);
      left = ap (lines_left script.lines) d.1 ∙ (lines-others script.lines seen d.0 d.2 ∙ t.left);
      kept = kept-as script.head seen log d.0 g.doubts d.1 t.kept;
      acyclic = untied-as script.head seen log d.0 g.acyclic d.1 t.acyclic;
    }

-- where it told the end, the history had finished
pub led_finished : (script : Script) (head : Head) (old new log : List Entry) (led : Led) → HasLed old new led → head ≡ script.head → log ≡ new
    → has_ended led ≡ (world head old).pace.finished → led ≡ Ended → (world script.head log).pace.finished ≡ true
led_finished script head old new log led l same is told at =
    let f : new ≡ old = subst (HasLed old new) at l in
    ap (λ (es : List Entry). (world script.head es).pace.finished) (is ∙ f)
    ∙ (ap (λ (h : Head). (world h old).pace.finished) (sym same) ∙ (sym told ∙ ap has_ended at))

-- the history of a turn of the dispatcher, which its pass has entered at `old`
pub host-taken : (script : Script) (vs : List ℕ) (seen mid old : List Entry) (g : Director) → has 0 vs ≡ true → Continues vs seen mid → old ≡ mid
    → HasTaken script seen g → HasTaken script old g
host-taken script vs seen mid old g h c is t =
    subst (λ (es : List Entry). HasTaken script es g) (sym is) (taken-on script vs seen mid g h c t)

pub host-grown : (script : Script) (vs ws : List ℕ) (old new seen log : List Entry) (led : Led) → has 0 vs ≡ true → ws ≡ vs → old ≡ seen
    → log ≡ new → HasLed old new led → Grown ws seen log
host-grown script vs ws old new seen log led h v o n l = go led l
  where
    go : (r : Led) → HasLed old new r → Grown ws seen log
    go Ran l = (by_dispatcher l.0 ∷ [], n ∙ (l.1 ∙ (λ i. o i ++ by_dispatcher l.0 ∷ [])), (ap (has 0) v ∙ h, tt))
    go Rests l = ([], n ∙ (l ∙ (o ∙ sym (append-nil seen))), tt)
    go Ended l = ([], n ∙ (l ∙ (o ∙ sym (append-nil seen))), tt)

pub host-keeps : (script : Script) (vs ws : List ℕ) (seen mid old new log : List Entry) (led : Led) (d : Director) → Continues vs seen mid
    → AllKeep script vs seen → old ≡ mid → HasLed old new led → HasTaken script new d → log ≡ new → ws ≡ vs → AllKeep script ws log
host-keeps script vs ws seen mid old new log led d c k o l t n v =
    rw (n, v) (all-led script vs old new led d l t (rw o (all-on script vs seen mid c k)))
