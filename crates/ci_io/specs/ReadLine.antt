-- What reading a line does to a reader.
use Rattle.std.specs.Prelude.{◌≡◌, ◌<◌, ◌≤◌, ◌++◌, ◌⊎◌, ℕ, [], ◌∷◌, true, false, List, Option, Some, None, length}
use Rattle.std.specs.Io.KnownBytes.{Consumes, IsAtEnd, Keeps}
use Rattle.ci_io.specs.Limits.{line_bytes}
use Rattle.ci_io.specs.declared.line.Line.{Line}
use Rattle.ci_io.specs.declared.line.Line.TheVariants.{Text, Long, End}
use Rattle.ci_io.specs.declared.line_end.LineEnd.{LineEnd}
use Rattle.ci_io.specs.declared.line_end.LineEnd.TheVariants.{Feed, Source, Beyond}
use Rattle.ci_io.specs.Lines.{HasFeedAt, HasNoFeed}
use Rattle.ci_io.specs.Reading.{Reading, TakesLine, TakesFed, IsOver, IsLastLine, IsLong, ahead}

-- the reader gives the first line of the bytes ahead and goes on behind it, or it is over
abbrev pub Gives : Reading → Reading → Line → Type 0
Gives old new (Text text) = TakesLine (ahead old) (ahead new) (Text text)
Gives old new Long = TakesLine (ahead old) (ahead new) Long
Gives old new End = IsOver old new

-- the reader gives a line that a line feed ended
abbrev pub Feeds : Reading → Reading → Line → Type 0
Feeds old new (Text text) = TakesFed (ahead old) (ahead new) (Text text)
Feeds old new Long = TakesFed (ahead old) (ahead new) Long
Feeds old new End = ⊥

-- the reader holds the next line with its line feed, or the source has told its end and the last line is held, or the
-- line goes on behind the held bytes, which are more than a text may have
abbrev pub Finds : Reading → LineEnd → Type 0
Finds r (Feed place) = (r.ended ≡ false) × HasFeedAt r.held place × (place ≤ line_bytes)
Finds r Source = (r.ended ≡ true) × IsLastLine r.held r.left
Finds r Beyond = (r.ended ≡ false) × IsLong r.held

-- the reader took n bytes more of a line, without its end, and gave them up
pub record PassesSome (old new : Reading) (most n : ℕ) : Type 0 where
  pub part : List ℕ
  pub count : length part ≡ n
  pub some : 0 < n
  pub bound : n ≤ most
  pub left : Consumes old.left new.left part
  pub whole : HasNoFeed part
  pub held : new.held ≡ []
  pub ended : new.ended ≡ false

-- the reader took the rest of a line and its line feed
pub record PassesFeed (old new : Reading) (most : ℕ) : Type 0 where
  pub part : List ℕ
  pub bound : length part < most
  pub ahead : Consumes old.left (ahead new) (part ++ 10 ∷ [])
  pub whole : HasNoFeed part
  pub ended : new.ended ≡ false

-- the line ended with the source
pub record PassesEnd (old new : Reading) : Type 0 where
  pub kept : Keeps old.left new.left
  pub at_end : IsAtEnd new.left
  pub held : new.held ≡ []
  pub ended : new.ended ≡ true

-- more of a line was passed over, or its end
abbrev pub Passes : Reading → Reading → ℕ → Option ℕ → Type 0
Passes old new most (Some n) = PassesSome old new most n
Passes old new most None = PassesFeed old new most ⊎ PassesEnd old new
