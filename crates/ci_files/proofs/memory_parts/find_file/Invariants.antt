use Rattle.std.proofs.Common.{◌≡◌, drop}
use Rattle.ci_files.specs.Files.{file_at}
use Rattle.ci_files.proofs.memory_parts.find_file.Given as goal

abbrev pub invariant-loop-file : goal.invariant-loop-file
invariant-loop-file l = file_at l.files l.path ≡ file_at (drop l.file-index l.files) l.path
