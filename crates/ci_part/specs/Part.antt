-- What a part of an index stands for: rows, and keys with the postings of its documents.
use Rattle.ci_wordlist.specs.WordList.{WordLists}
use Rattle.ci_part.specs.declared.part.Part.{Part}
use Rattle.ci_part.specs.declared.part.Part.TheVariants.{List as InMemory, Shadow, Master}

-- a word list and kept rows and segments alike stand for their rows, and for what their keys have of these
abbrev pub lists_of : Part → WordLists
lists_of (InMemory list) = list
lists_of (Shadow kept) = kept
lists_of (Master kept) = kept
