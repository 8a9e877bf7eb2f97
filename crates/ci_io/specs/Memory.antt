-- Sources and sinks in memory, as their contracts see them.
use Rattle.std.specs.Prelude.{ℕ, List}

-- a source: the bytes still to come, the numbers of the calls that are to fail, counted from 0, how many calls
-- were made, and how many failed
pub record SourceState : Type 0 where
  pub left : List ℕ
  pub fails : List ℕ
  pub calls : ℕ
  pub faults : ℕ

-- a sink without a list of calls that are to fail: the bytes written, the most that one put takes, the most that
-- all puts take together, and how many puts failed
pub record SureSinkState : Type 0 where
  pub written : List ℕ
  pub most : ℕ
  pub room : ℕ
  pub faults : ℕ

-- a sink with such a list
pub record SinkState : Type 0 where
  pub written : List ℕ
  pub most : ℕ
  pub room : ℕ
  pub fails : List ℕ
  pub calls : ℕ
  pub faults : ℕ
