-- Files by path.
use Rattle.std.specs.Prelude.{ℕ, List, [], ◌∷◌, ◌++◌, Option, Some, None, unwrap_or, bytes_eq, codes, if◌then◌else◌}

-- a file: its path and its bytes
abbrev pub File : Type 0
File = List ℕ × List ℕ

-- the bytes of the first file of a path
abbrev pub file_at : List File → List ℕ → Option (List ℕ)
file_at [] path = None
file_at (file ∷ files) path = if bytes_eq file.0 path then Some file.1 else file_at files path

-- a file that isn't there has no bytes
abbrev pub contents : List File → List ℕ → List ℕ
contents files path = unwrap_or (file_at files path) []

-- a path as the name of a file under the folder in which a program was started: /d/a.txt is ./d/a.txt
abbrev pub under_folder : List ℕ → List ℕ
under_folder path = codes "." ++ path
