-- The adapters over std's readers and writers, as their contracts see them.
use Rattle.std.specs.Prelude.{ℕ, List, Option}

-- a source over a reader: the bytes that the reader has left, where it tells them, and how many reads failed
pub record ReaderState : Type 0 where
  pub left : Option (List ℕ)
  pub faults : ℕ

-- a sink over a writer: the bytes that the writer holds, where it tells them, and how many puts failed
pub record WriterState : Type 0 where
  pub written : Option (List ℕ)
  pub faults : ℕ
