-- What the streams in memory are.
use Rattle.std.specs.Prelude.{ℕ, Bool, false, List, [], ◌∷◌}

-- a source in memory: the bytes left, how many a call moves at most, which of the next calls are to fail, and how often it has failed
pub record Supply : Type 0 where
  pub left : List ℕ
  pub most : ℕ
  pub fails : List Bool
  pub faults : ℕ

-- a source in memory that never fails: the bytes left, and how many a call moves at most
pub record PlainSupply : Type 0 where
  pub left : List ℕ
  pub most : ℕ

-- a sink in memory: the bytes held, how many a call moves at most, which of the next calls are to fail, and how often it has failed
pub record Holding : Type 0 where
  pub held : List ℕ
  pub most : ℕ
  pub fails : List Bool
  pub faults : ℕ

-- the next call is to fail
abbrev pub next_fails : List Bool → Bool
next_fails [] = false
next_fails (fail ∷ fails) = fail
