-- Before the first entry.
use Rattle.std.proofs.Common.{◌≡◌, ℕ, zero, suc, ◌<◌, List, [], refl, length, Option, Some, None}
use Rattle.atomic_table.specs.Seated.{TableId}
use Rattle.iso_agent.specs.Fits.{IsRested}
use Rattle.iso_agent.specs.Passes.{IsPassOf}
use Rattle.iso_agent.specs.declared.agent.Agent.{Agent}
use Rattle.iso_agent.specs.declared.agent.Kept.{Kept}
use Rattle.iso_agent.specs.declared.agent.Kept.TheVariants.{Nothing}
use Rattle.iso_conduct.specs.Conduct.{Conduct, ConductFrom, point, point_from}
use Rattle.iso_conduct.specs.Points.{Point}
use Rattle.iso_conduct.specs.Pacing.{Paced, PacedFrom}
use Rattle.iso_history.specs.declared.entry.Entry.{Entry}
use Rattle.iso_latch.specs.Told.{seen_of}
use Rattle.iso_script.specs.declared.script.Script.{Script}
use Rattle.iso_threads.specs.Backs.{IsBack}
use Rattle.iso_threads.specs.Kept.{Keeps}
use Rattle.iso_threads.specs.declared.backs.Back.{Back}
use Rattle.iso_types.specs.declared.value.Conn.{Conn}

conduct-none : (script : Script) (c : Conn) → Conduct script.head script.lines [] c
unfolding Conduct ConductFrom
conduct-none script c = tt

paced-none : (script : Script) → Paced script.head script.lines []
unfolding Paced PacedFrom
paced-none script = tt

pub keeps-none : (script : Script) (x : ℕ) → Keeps script x []
keeps-none script zero = paced-none script
keeps-none script (suc c) = conduct-none script (record { 0 = c })

rested-none : (script : Script) (c : Conn) → IsRested script [] c None Nothing
unfolding point point_from Conduct ConductFrom
rested-none script c = record { fits = record { reaches = refl; runs = λ h. absurd (cc) }; settled = refl; conduct = tt }

new-rested : (script : Script) (c : Conn) (es : List Entry) (task : Option Point) (kept : Kept) → es ≡ [] → task ≡ None → kept ≡ Nothing
    → IsRested script es c task kept
new-rested script c es task kept none t k = rw (none, t, k) (rested-none script c)

-- an agent that has made nothing, with its pass
pub new-back : (id : TableId) (script : Script) (b : Back) (a : Agent) → b.agent ≡ Some a → IsPassOf id script b.conn b.pass
    → b.conn.0 < length script.head.conns → seen_of b.pass.seat ≡ [] → a.conn ≡ b.conn → a.task ≡ None → a.kept ≡ Nothing → IsBack id script b
new-back id script b a is p within none conn task kept = record {
  pass = p;
  within = within;
  agent = rw is (conn, new-rested script b.conn (seen_of b.pass.seat) a.task a.kept none task kept);
}
