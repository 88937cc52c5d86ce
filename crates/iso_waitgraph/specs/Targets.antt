-- Edges as lists of targets, as a history gives them, beside a test of two connections.
use Rattle.std.specs.Prelude.{◌≡◌, ◌<◌, Bool, true, ◌&&◌, List, [], ◌∷◌, filter}
use Rattle.iso_types.specs.Cycles.{is_among}
use Rattle.iso_types.specs.declared.value.Conn.{Conn}

-- each connection is less than those after it
abbrev pub AreRising : List Conn → Type 0
AreRising [] = Unit {0}
AreRising (c ∷ cs) = ((d : Conn) → is_among d cs ≡ true → c.0 < d.0) × AreRising cs

-- the connections stand in order; the targets of each are some of them, in the same order; and the test is that of the targets
pub record AreTargets (edge : Conn → Conn → Bool) (edges : Conn → List Conn) (all : List Conn) : Type 0 where
  pub rising : AreRising all
  pub some_of : (c : Conn) → (p : Conn → Bool) × (edges c ≡ filter p all)
  pub same : (c d : Conn) → edge c d ≡ (is_among c all && is_among d (edges c))
