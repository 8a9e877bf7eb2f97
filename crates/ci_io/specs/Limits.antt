-- How long a line may be. Both numbers are this project's own choice; `LINE_BYTES` and `ENDLESS_BYTES` have to equal them.
use Rattle.std.specs.Prelude.{ℕ}

-- the most bytes of a line that is given: 64 KiB, so that one buffer of a reader has room for it
abbrev pub line_bytes : ℕ
line_bytes = 65536

-- a line of so many bytes without a line feed is endless: 1 GiB, 1,024 times what the texts of one document may have
abbrev pub endless_bytes : ℕ
endless_bytes = 1073741824
