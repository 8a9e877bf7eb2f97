-- Files in memory, as their contracts see them.
use Rattle.std.specs.Prelude.{ℕ, List}
use Rattle.ci_files.specs.Files.{File}

-- the files, the numbers of the reads that are to fail, counted from 0, how many reads were made, and how many failed
pub record FilesState : Type 0 where
  pub files : List File
  pub fails : List ℕ
  pub calls : ℕ
  pub faults : ℕ
