-- A path names a document under the catalogue's root: parts, each behind a slash, as /d/a.txt.
use Rattle.std.specs.Prelude.{◌==◌, ◌||◌, ◌&&◌, ℕ, Bool, not, nat_le, List, codes, drop, length, IsTrue, IsUtf8, bytes_eq, slice_index}
use Rattle.std.specs.List.{slice_split, list_all}

-- what stands between the slashes: of /d/a.txt these are d and a.txt
abbrev pub parts_of : List ℕ → List (List ℕ)
parts_of path = slice_split (λ b. b == 47) (drop 1 path)

-- a part names a file or a folder: it isn't empty, this folder or the folder above
abbrev pub is_part : List ℕ → Bool
is_part part = not (bytes_eq part (codes "") || bytes_eq part (codes ".") || bytes_eq part (codes ".."))

-- a byte of a character that is no control character: none below U+0020, and not U+007F
abbrev pub is_shown : ℕ → Bool
is_shown byte = nat_le 32 byte && not (byte == 127)

-- at most 1,024 bytes, begun by a slash, with characters that can be shown, in parts
abbrev pub has_path_form : List ℕ → Bool
has_path_form text =
    nat_le (length text) 1024 && (slice_index text 0 == 47) && list_all is_shown text && list_all is_part (parts_of text)

pub record IsPath (bytes : List ℕ) : Type 0 where
  pub utf8 : IsUtf8 bytes
  pub form : IsTrue (has_path_form bytes)
