-- What a reader of lines holds and has still to read.
use Rattle.std.specs.Prelude.{◌≡◌, ℕ, ◌<◌, ◌≤◌, Bool, true, false, List, [], ◌∷◌, ◌++◌, ◌⊎◌, Option, Some, None, ⊤, IfSome, length, nat_le, if◌then◌else◌}
use Rattle.std.specs.Io.KnownBytes.{prepend_known, Keeps, Consumes, IsAtEnd}
use Rattle.ci_io.specs.Limits.{line_bytes, endless_bytes}
use Rattle.ci_io.specs.declared.line.Line.{Line}
use Rattle.ci_io.specs.declared.line.Line.TheVariants.{Text, Long, End}
use Rattle.ci_io.specs.Lines.{raw_lines, without_return, HasNoFeed, IsFirstLine}

-- a reader: the bytes that it took from its source and hasn't handed out, those that the source has left
-- where it tells them, the source's count of faults, and whether the source has told its end
pub record Reading : Type 0 where
  pub held : List ℕ
  pub left : Option (List ℕ)
  pub faults : ℕ
  pub ended : Bool

-- all bytes that are still to be read, where the source tells them
abbrev pub ahead : Reading → Option (List ℕ)
ahead r = prepend_known r.held r.left

-- what is read for a line: its text without its return, unless it has over line_bytes bytes
abbrev pub line_of : List ℕ → Line
line_of raw = if nat_le (length raw) line_bytes then Text (without_return raw) else Long

-- the text of a line has no more bytes than a text may have
abbrev pub IsShort : Line → Type 0
IsShort (Text text) = length text ≤ line_bytes
IsShort Long = ⊤
IsShort End = ⊤

-- known bytes lost their first line, which isn't endless, and it was read
abbrev pub TakesLine : Option (List ℕ) → Option (List ℕ) → Line → Type 0
TakesLine None new line = ⊤
TakesLine (Some all) None line = ⊥
TakesLine (Some all) (Some rest) line =
    (raw : List ℕ) × (length raw < endless_bytes) × (line ≡ line_of raw) × IsFirstLine raw all rest

-- known bytes lost their first line and the line feed that ended it, and the line was read
abbrev pub TakesFed : Option (List ℕ) → Option (List ℕ) → Line → Type 0
TakesFed None new line = ⊤
TakesFed (Some all) None line = ⊥
TakesFed (Some all) (Some rest) line =
    (raw : List ℕ) × (line ≡ line_of raw) × HasNoFeed raw × (all ≡ raw ++ 10 ∷ rest)

-- the reader gave all that was ahead, which had no line feed
pub record TakesAll (old new : Reading) : Type 0 where
  pub whole : IfSome (ahead old) HasNoFeed
  pub held : new.held ≡ []
  pub left : IsAtEnd new.left

-- the reader has reached the end, and the source has told it: nothing was ahead, and nothing is
pub record IsOver (old new : Reading) : Type 0 where
  pub held_before : old.held ≡ []
  pub held_after : new.held ≡ []
  pub ended_before : IsAtEnd (ahead old)
  pub ended_after : IsAtEnd (ahead new)
  pub kept : Keeps (ahead old) (ahead new)
  pub told : new.ended ≡ true

-- the source hadn't told its end, and still hasn't
abbrev pub IsBeforeEnd : Reading → Reading → Type 0
IsBeforeEnd old new = (old.ended ≡ false) × (new.ended ≡ false)

-- the source is as it was
pub record LeavesSource (old new : Reading) : Type 0 where
  pub left : new.left ≡ old.left
  pub faults : new.faults ≡ old.faults

-- nothing follows the held bytes, which are one line at most
pub record IsLastLine (held : List ℕ) (left : Option (List ℕ)) : Type 0 where
  pub whole : HasNoFeed held
  pub short : length held ≤ line_bytes
  pub ended : IsAtEnd left

-- the bytes have no line feed, and are more than a text may have
abbrev pub IsLong : List ℕ → Type 0
IsLong bytes = (line_bytes < length bytes) × HasNoFeed bytes

-- the bytes ahead lost the beginning of a line: none, unless those lost are more than a text may have
pub record Loses (old new : Reading) : Type 0 where
  pub lost : List ℕ
  pub ahead : Consumes (ahead old) (ahead new) lost
  pub whole : HasNoFeed lost
  pub long : (lost ≡ []) ⊎ (line_bytes < length lost)

-- the bytes that were taken of one line, lost or held now, have no line feed; they make the line endless, and none
-- was taken beyond
pub record IsEndless (old new : Reading) : Type 0 where
  pub loses : Loses old new
  pub whole : HasNoFeed (loses.lost ++ new.held)
  pub endless : length (loses.lost ++ new.held) ≡ endless_bytes

-- known bytes begin with a line of endless_bytes bytes at least
abbrev pub BeginsTooLong : Option (List ℕ) → Type 0
BeginsTooLong None = ⊤
BeginsTooLong (Some all) =
    (raw : List ℕ) × (rest : List (List ℕ)) × (raw_lines all ≡ raw ∷ rest) × (endless_bytes ≤ length raw)

-- the reader took some bytes from its source, and holds them behind those that it held
pub record Gathers (old new : Reading) : Type 0 where
  pub part : List ℕ
  pub held : new.held ≡ old.held ++ part
  pub left : Consumes old.left new.left part

-- the n bytes that the source gave stand behind the held ones; it gives none only at its end
pub record Refills (old new : List ℕ) (before after : Option (List ℕ)) (n : ℕ) : Type 0 where
  pub part : List ℕ
  pub count : length part ≡ n
  pub held : new ≡ old ++ part
  pub left : Consumes before after part
  pub ended : n ≡ 0 → IsAtEnd after
