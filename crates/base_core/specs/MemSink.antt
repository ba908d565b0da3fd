-- The state of a sink in memory.
use Rattle.std.specs.Prelude.{ℕ, List}

pub record SinkState : Type 0 where
  -- the bytes taken
  pub taken : List ℕ
  -- how many bytes it takes in all
  pub room : ℕ
  -- how many bytes a put takes at most
  pub most : ℕ
  -- which of the next puts are to fail: 1 is the next one, and 0 stands for one that is past
  pub planned : List ℕ
  -- how often it has failed
  pub faults : ℕ
