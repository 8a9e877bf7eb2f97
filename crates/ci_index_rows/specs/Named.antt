-- Documents whose paths are named after their numbers.
use Rattle.std.specs.Prelude.{◌≡◌, [], ◌∷◌, All}
use Rattle.ci_rows_format.specs.declared.row.Row.{Row}
use Rattle.ci_wordlist.specs.WordList.{WordLists}

-- the path is a slash and the byte of the document's number
abbrev pub IsNamed : Row → Type 0
IsNamed row = row.path ≡ 47 ∷ row.doc.0 ∷ []

abbrev pub AreNamed : WordLists → Type 0
AreNamed part = All IsNamed part.rows
