-- What is ahead of a reader that gathers bytes and hands lines out.
use Rattle.std.proofs.Common.{◌≡◌, ◌≢◌, ℕ, ◌+◌, ◌-◌, ◌<◌, ◌≤◌, Bool, true, false, List, [], ◌++◌, Some, None, length, take, drop, arith, refl, sym, ap, ◌∙◌, subst, inl, append_assoc, append-nil, length-take}
use Rattle.std.proofs.lemmas.Bool.{le-leb, lt-leb}
use Rattle.std.specs.Prelude.{Option, IfSome}
use Rattle.std.specs.Io.BufRead.{ends_with_byte}
use Rattle.std.specs.Io.KnownBytes.{prepend_known, Keeps, Consumes}
use Rattle.ci_io.specs.Limits.{line_bytes}
use Rattle.ci_io.specs.declared.line.Line.{Line}
use Rattle.ci_io.specs.declared.line.Line.TheVariants.{Text, Long}
use Rattle.ci_io.specs.Lines.{HasNoFeed, HasFeedAt, without_return}
use Rattle.ci_io.specs.Reading.{Reading, Gathers, TakesLine, TakesFed, TakesAll, IsLastLine, Loses, line_of, ahead}
use Rattle.ci_io.proofs.FirstLines.{parts_at_feed, IsFirstLine-feed, IsFirstLine-last}

-- what is read for a line by its length
pub line_of-text : (raw : List ℕ) → length raw ≤ line_bytes → line_of raw ≡ Text (without_return raw)
line_of-text raw short = rw (le-leb (length raw) line_bytes short)

pub line_of-long : (raw : List ℕ) → line_bytes < length raw → line_of raw ≡ Long
line_of-long raw long = rw (lt-leb (length raw) line_bytes long)

without_return-short : (line : List ℕ) → length (without_return line) ≤ length line
without_return-short line = by (ends_with_byte 13 line) refl
  where
    by : (b : Bool) → ends_with_byte 13 line ≡ b → length (without_return line) ≤ length line
    by true e = rw e (omega (arith, length-take (length line - 1) line))
    by false e = rw e (omega arith)

-- a line within the bound gives a text within it
pub IsShort-taken : (held text : List ℕ) (count : ℕ) → count ≤ line_bytes → text ≡ without_return (take count held) → length text ≤ line_bytes
IsShort-taken held text count short is = omega (arith, ap length is, without_return-short (take count held), length-take count held)

-- bytes that move from the source to the held ones are still ahead
prepend_known-moved : (held part : List ℕ) (before after : Option (List ℕ)) → Consumes before after part → Keeps (prepend_known held before) (prepend_known (held ++ part) after)
prepend_known-moved held part None after moved = tt
prepend_known-moved held part (Some xs) None moved = absurd moved
prepend_known-moved held part (Some xs) (Some ys) moved = append_assoc held part ys ∙ ap (λ l. held ++ l) (sym moved)

pub Keeps-gathers : (old new : Reading) → Gathers old new → Keeps (ahead old) (ahead new)
Keeps-gathers old new g =
    let P : List ℕ → Type 0 = λ held. Keeps (ahead old) (prepend_known held new.left) in
    subst P (sym g.held) (prepend_known-moved old.held g.part old.left new.left g.left)

-- a source that kept its bytes gave none
pub Consumes-none : (before after : Option (List ℕ)) → Keeps before after → Consumes before after []
Consumes-none None after kept = tt
Consumes-none (Some xs) None kept = absurd kept
Consumes-none (Some xs) (Some ys) kept = sym kept

pub Gathers-none : (old new : Reading) → new.held ≡ old.held → Keeps old.left new.left → Gathers old new
Gathers-none old new held kept = record {
  part = [];
  held = held ∙ sym (append-nil old.held);
  left = Consumes-none old.left new.left kept;
}

-- a line of bytes that were kept until then is their line
pub TakesLine-kept : (a b c : Option (List ℕ)) (line : Line) → Keeps a b → TakesLine b c line → TakesLine a c line
TakesLine-kept None b c line kept taken = tt
TakesLine-kept (Some xs) None c line kept taken = absurd kept
TakesLine-kept (Some xs) (Some ys) c line kept taken = let P : List ℕ → Type 0 = λ l. TakesLine (Some l) c line in subst P kept taken

-- a line up to its line feed is handed out
TakesLine-feed : (held : List ℕ) (left : Option (List ℕ)) (place : ℕ) → HasFeedAt held place → place ≤ line_bytes
    → TakesLine (prepend_known held left) (prepend_known (drop (place + 1) held) left) (Text (without_return (take place held)))
TakesLine-feed held None place found short = tt
TakesLine-feed held (Some rest) place found short =
    let raw = take place held in
    let few : length raw ≤ line_bytes = omega (arith, length-take place held) in
    (raw, omega arith, sym (line_of-text raw few), IsFirstLine-feed held rest place found)

-- the last bytes are handed out as a line
TakesLine-last : (held : List ℕ) (left : Option (List ℕ)) → IsLastLine held left → held ≢ [] → TakesLine (prepend_known held left) (prepend_known [] left) (Text (without_return held))
TakesLine-last held None last some = tt
TakesLine-last held (Some rest) last some =
    let whole : held ++ rest ≡ held = ap (λ l. held ++ l) last.ended ∙ append-nil held in
    let few = last.short in
    let P : List ℕ → List ℕ → Type 0 = λ all behind. TakesLine (Some all) (Some behind) (Text (without_return held)) in
    subst (λ (l : List ℕ). P (held ++ rest) l) (sym last.ended)
    (subst (λ (l : List ℕ). P l []) (sym whole) (held, omega arith, sym (line_of-text held few), IsFirstLine-last held last.whole some))

pub TakesLine-gathered : (old mid new : Reading) (place : ℕ) (text : List ℕ) → Gathers old mid → HasFeedAt mid.held place → place ≤ line_bytes
    → text ≡ without_return (take place mid.held) → new.held ≡ drop (place + 1) mid.held → new.left ≡ mid.left → TakesLine (ahead old) (ahead new) (Text text)
TakesLine-gathered old mid new place text gathers found short copied held left =
    rw (copied, held, left) (TakesLine-kept (ahead old) (ahead mid) _ _ (Keeps-gathers old mid gathers) (TakesLine-feed mid.held mid.left place found short))

pub TakesLine-ended : (old mid new : Reading) (text : List ℕ) → Gathers old mid → IsLastLine mid.held mid.left → mid.held ≢ []
    → text ≡ without_return mid.held → new.held ≡ [] → new.left ≡ mid.left → TakesLine (ahead old) (ahead new) (Text text)
TakesLine-ended old mid new text gathers last some copied held left =
    rw (copied, held, left) (TakesLine-kept (ahead old) (ahead mid) _ _ (Keeps-gathers old mid gathers) (TakesLine-last mid.held mid.left last some))

-- a line up to its line feed, and the feed, are handed out
TakesFed-feed : (held : List ℕ) (left : Option (List ℕ)) (place : ℕ) → HasFeedAt held place → place ≤ line_bytes
    → TakesFed (prepend_known held left) (prepend_known (drop (place + 1) held) left) (Text (without_return (take place held)))
TakesFed-feed held None place found short = tt
TakesFed-feed held (Some rest) place found short =
    let raw = take place held in
    (raw, sym (line_of-text raw (omega (arith, length-take place held))), found.first, parts_at_feed held rest place found)

pub TakesFed-kept : (a b c : Option (List ℕ)) (line : Line) → Keeps a b → TakesFed b c line → TakesFed a c line
TakesFed-kept None b c line kept taken = tt
TakesFed-kept (Some xs) None c line kept taken = absurd kept
TakesFed-kept (Some xs) (Some ys) c line kept taken = let P : List ℕ → Type 0 = λ l. TakesFed (Some l) c line in subst P kept taken

pub TakesFed-gathered : (old mid new : Reading) (place : ℕ) (text : List ℕ) → Gathers old mid → HasFeedAt mid.held place → place ≤ line_bytes
    → text ≡ without_return (take place mid.held) → new.held ≡ drop (place + 1) mid.held → new.left ≡ mid.left → TakesFed (ahead old) (ahead new) (Text text)
TakesFed-gathered old mid new place text gathers found short copied held left =
    rw (copied, held, left) (TakesFed-kept (ahead old) (ahead mid) _ _ (Keeps-gathers old mid gathers) (TakesFed-feed mid.held mid.left place found short))

-- the last bytes have no line feed
HasNoFeed-last : (held : List ℕ) (left : Option (List ℕ)) → IsLastLine held left → IfSome (prepend_known held left) HasNoFeed
HasNoFeed-last held None last = tt
HasNoFeed-last held (Some rest) last = subst HasNoFeed (sym (ap (λ l. held ++ l) last.ended ∙ append-nil held)) last.whole

pub HasNoFeed-kept : (a b : Option (List ℕ)) → Keeps a b → IfSome b HasNoFeed → IfSome a HasNoFeed
HasNoFeed-kept None b kept whole = tt
HasNoFeed-kept (Some xs) None kept whole = absurd kept
HasNoFeed-kept (Some xs) (Some ys) kept whole = subst HasNoFeed kept whole

pub TakesAll-gathered : (old mid new : Reading) → Gathers old mid → IsLastLine mid.held mid.left → new.held ≡ [] → new.left ≡ mid.left → TakesAll old new
TakesAll-gathered old mid new gathers last held left = record {
  whole = HasNoFeed-kept (ahead old) (ahead mid) (Keeps-gathers old mid gathers) (HasNoFeed-last mid.held mid.left last);
  held = held;
  left = rw left last.ended;
}

-- a reader that only gathered bytes lost none
pub Loses-none : (old new : Reading) → Keeps (ahead old) (ahead new) → Loses old new
Loses-none old new kept = record {
  lost = [];
  ahead = Consumes-none (ahead old) (ahead new) kept;
  whole = λ found. absurd (omega (arith, found.1));
  long = inl refl;
}

-- nor did one that was refused a text
pub Loses-refused : (old mid new : Reading) → Gathers old mid → new.held ≡ mid.held → new.left ≡ mid.left → Loses old new
Loses-refused old mid new gathers held left = Loses-none old new (rw (held, left) (Keeps-gathers old mid gathers))
