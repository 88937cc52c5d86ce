-- Along every legal history what stands in front of a statement goes with the world.
use Rattle.std.proofs.Common.{◌≡◌, Bool, true, false, List, [], ◌∷◌, refl, sym, subst, Option, None, inl, if◌then◌else◌}
use Rattle.iso_conduct.proofs.Open.{eq-is}
use Rattle.iso_conduct.proofs.PairedAlong.{IsTied, tied-along}
use Rattle.iso_conduct.specs.Conduct.{Conduct, ConductFrom, Does, moved, point, point_after, point_from}
use Rattle.iso_conduct.specs.Points.{Point}
use Rattle.iso_history.proofs.whole.Sound.{sound-after, start-sound}
use Rattle.iso_history.specs.After.{after, start, world, world_from}
use Rattle.iso_history.specs.Facts.{IsSound}
use Rattle.iso_history.specs.Legal.{Allowed, Ground, GroundFrom}
use Rattle.iso_history.specs.Makers.{by_agent}
use Rattle.iso_history.specs.World.{World}
use Rattle.iso_history.specs.declared.entry.Act.{Act}
use Rattle.iso_history.specs.declared.entry.Entry.{Entry}
use Rattle.iso_history.specs.declared.entry.Who.{Who}
use Rattle.iso_history.specs.declared.entry.Who.TheVariants.{Agent, Dispatcher}
use Rattle.iso_script.specs.declared.script.Line.{Line}
use Rattle.iso_standing.proofs.Own.{unfreed}
use Rattle.iso_standing.proofs.Stands.{StandsAt}
use Rattle.iso_standing.proofs.StandsOthers.{agent-stands, dispatcher-stands}
use Rattle.iso_standing.proofs.StandsOwn.{own-stands}
use Rattle.iso_types.specs.Ids.{conn_eq}
use Rattle.iso_types.specs.declared.head.Head.{Head}
use Rattle.iso_types.specs.declared.value.Conn.{Conn}

module _ (head : Head) (lines : List Line) (c : Conn) where
  -- one entry keeps waits and Claims together
  step-tied : (w : World) (o : Option Point) (e : Entry) → Does head lines w c o e → IsTied w c o
      → IsTied (after head w e) c (point_after head lines w c o e)
  unfolding ConductFrom point_from world_from
  step-tied w o e d t = tied-along head lines w c o (e ∷ []) (d, tt) t

  -- one entry leaves it so
  pub after-stands : (w : World) (o : Option Point) (e : Entry) → IsSound head w → Allowed head w e → Does head lines w c o e → IsTied w c o
      → StandsAt w c o → StandsAt (after head w e) c (point_after head lines w c o e)
  after-stands w o e s al d t h = go e.who e.act al d
    where
      go : (who : Who) (a : Act) → Allowed head w (record { who = who; act = a }) → Does head lines w c o (record { who = who; act = a })
          → StandsAt (after head w (record { who = who; act = a })) c (point_after head lines w c o (record { who = who; act = a }))
      go Dispatcher a al d = dispatcher-stands head w c o s.locks.open_waits t h a al.2
      go (Agent k) a al d = by (conn_eq k c) refl
        where
          by : (b : Bool) → conn_eq k c ≡ b
              → StandsAt (after head w (by_agent k a)) c (if b then moved head lines w (after head w (by_agent k a)) c o a else o)
          by false n = agent-stands head w c o s.locks.open_waits t h k a n
          by true own =
              let same = eq-is k c own in
              subst (λ z. StandsAt (after head w (by_agent z a)) c (moved head lines w (after head w (by_agent z a)) c o a)) (sym same)
              (own-stands head lines w c a o h (subst (λ z. Allowed head w (by_agent z a)) same al).2.1 (d own))

  stands-along : (w : World) (o : Option Point) (es : List Entry) → IsSound head w → GroundFrom head w es → ConductFrom head lines w c o es
      → IsTied w c o → StandsAt w c o → StandsAt (world_from head w es) c (point_from head lines w c o es)
  unfolding GroundFrom ConductFrom point_from world_from
  stands-along w o [] s g k t h = h
  stands-along w o (e ∷ es) s g k t h =
      stands-along (after head w e) (point_after head lines w c o e) es (sound-after head w e g.0 s) g.1 k.1
      (step-tied w o e k.0 t) (after-stands w o e s g.0 k.0 t h)

  -- in every history that may stand and keeps to its statements
  pub stands : (es : List Entry) → Ground head es → Conduct head lines es c → StandsAt (world head es) c (point head lines es c)
  unfolding Ground Conduct point world
  stands es g k =
      stands-along (start head) None es (start-sound head) g k (record { front = tt; waits = λ hc hd. refl })
      (record { collapse = refl; awaited = refl; frees = unfreed (start head) c [] refl; fate = λ e. inl tt })
