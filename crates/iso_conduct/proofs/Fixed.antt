-- In the serial run the next entry is fixed, stops for want of memory aside.
use Rattle.std.proofs.Common.{◌≡◌, false, List, refl, sym, ◌∙◌, ap, subst, Option, Some}
use Rattle.iso_conduct.proofs.Lasts.{may_one}
use Rattle.iso_conduct.proofs.Open.{eq-same}
use Rattle.iso_conduct.specs.Conduct.{Does, stops_for_memory}
use Rattle.iso_conduct.specs.Points.{Point}
use Rattle.iso_conduct.specs.Schedule.{Leads, Turns, dispatcher_step, turn}
use Rattle.iso_history.specs.Phases.{phase}
use Rattle.iso_history.specs.World.{World}
use Rattle.iso_history.specs.declared.entry.Act.{Act}
use Rattle.iso_history.specs.declared.entry.Entry.{Entry}
use Rattle.iso_history.specs.declared.entry.Who.{Who}
use Rattle.iso_history.specs.declared.entry.Who.TheVariants.{Agent, Dispatcher}
use Rattle.iso_script.specs.declared.script.Line.{Line}
use Rattle.iso_types.specs.declared.head.Head.{Head}
use Rattle.iso_types.specs.declared.value.Conn.{Conn}

abbrev entry : Who → Act → Entry
entry who a = record { who = who; act = a }

module _ (head : Head) (lines : List Line) (w : World) (ls : List Line) (ts : Turns) (points : Conn → Option Point) where
  -- the maker's conduct and, for the dispatcher, the order of its steps fix the act
  act-fixed : (who : Who) (a b : Act) → Leads head w ls who a → Leads head w ls who b
      → ((c : Conn) → Does head lines w c (points c) (entry who a)) → ((c : Conn) → Does head lines w c (points c) (entry who b))
      → stops_for_memory a ≡ false → stops_for_memory b ≡ false → a ≡ b
  act-fixed Dispatcher a b l m d e na nb =
      let p : dispatcher_step head w ls ≡ Some a = l.0 (rw na refl) in
      let q : dispatcher_step head w ls ≡ Some b = m.0 (rw nb refl) in
      cc
  act-fixed (Agent c) a b l m d e na nb =
      may_one (phase w c) head lines w c (points c) a b na nb (d c (eq-same c)) (e c (eq-same c))

  -- whose turn it is fixes the maker
  pub next-fixed : (e f : Entry) → turn head w ls ts ≡ Some e.who → turn head w ls ts ≡ Some f.who
      → Leads head w ls e.who e.act → Leads head w ls f.who f.act
      → ((c : Conn) → Does head lines w c (points c) e) → ((c : Conn) → Does head lines w c (points c) f)
      → stops_for_memory e.act ≡ false → stops_for_memory f.act ≡ false → e ≡ f
  next-fixed e f t u l m d g ne nf =
      let same : e.who ≡ f.who = cc in
      go e.who same t l d
    where
      go : (who : Who) → who ≡ f.who → turn head w ls ts ≡ Some who → Leads head w ls who e.act
          → ((c : Conn) → Does head lines w c (points c) (entry who e.act)) → entry who e.act ≡ f
      go who is t2 l2 d2 =
          ap (entry who) (act-fixed who e.act f.act l2 (subst (λ x. Leads head w ls x f.act) (sym is) m) d2
          (λ c. subst (λ x. Does head lines w c (points c) (entry x f.act)) (sym is) (g c)) ne nf)
          ∙ ap (λ x. entry x f.act) is
