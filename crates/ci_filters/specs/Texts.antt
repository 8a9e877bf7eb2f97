-- The text of a file.
use Rattle.std.specs.Prelude.{ℕ, ◌==◌, ◌&&◌, Bool, List, Option, Some, None, length, take, drop, is_none, if◌then◌else◌}
use Rattle.std.specs.Str.{is_utf8}
use Rattle.std.specs.Str.Lossy.{utf8_valid_len, utf8_error_len}

-- the most bytes that are read of a file
abbrev pub file_bytes : ℕ
file_bytes = 1048576

-- the bytes stop being UTF-8 where a character begins that the end cuts off
abbrev pub ends_inside : List ℕ → Bool
ends_inside bytes = is_none (utf8_error_len (drop (utf8_valid_len bytes) bytes))

-- the bytes themselves, if they are UTF-8. As many bytes as are read at most may be the front of a longer file: of
-- these a character that the end cuts off is dropped.
unfoldable pub text_of : List ℕ → Option (List ℕ)
text_of bytes =
    if is_utf8 bytes then Some bytes
    else (if (length bytes == file_bytes) && ends_inside bytes then Some (take (utf8_valid_len bytes) bytes) else None)
