-- A reader that passes over a long line.
use Rattle.std.proofs.Common.{◌≡◌, ◌≢◌, ℕ, ◌+◌, ◌-◌, ◌<◌, ◌≤◌, true, false, List, [], ◌∷◌, ◌++◌, Some, None, ◌⊎◌, inl, inr, length, take, drop, arith, sym, ap, ◌∙◌, subst, append_assoc, append-nil, length-append, length-take}
use Rattle.std.proofs.KnownBytes.{Consumes-trans, Consumes-kept, Consumes-whole, Keeps-refl, prepend_known-nil}
use Rattle.std.specs.Prelude.{Option}
use Rattle.std.specs.Io.KnownBytes.{prepend_known, Keeps, Consumes, IsAtEnd}
use Rattle.ci_io.specs.Limits.{line_bytes, endless_bytes}
use Rattle.ci_io.specs.declared.line.Line.TheVariants.{Long}
use Rattle.ci_io.specs.Lines.{HasFeedAt, HasNoFeed, raw_lines}
use Rattle.ci_io.specs.Reading.{Reading, Gathers, TakesLine, TakesFed, TakesAll, IsEndless, BeginsTooLong, Loses, ahead}
use Rattle.ci_io.specs.ReadLine.{PassesSome, PassesFeed, PassesEnd}
use Rattle.ci_io.proofs.Feeds.{HasNoFeed-append}
use Rattle.ci_io.proofs.FirstLines.{parts_at_feed, raw_lines-feed, IsFirstLine-last, raw_lines-begun}
use Rattle.ci_io.proofs.TakenLines.{line_of-long, Consumes-none, Keeps-gathers}

-- a reader passed over the beginning of a long line, and holds nothing
pub record IsPassing (first now : Reading) (passed : ℕ) : Type 0 where
  pub lost : List ℕ
  pub count : length lost ≡ passed
  pub long : line_bytes < length lost
  pub whole : HasNoFeed lost
  pub left : Consumes (ahead first) now.left lost
  pub held : now.held ≡ []
  pub ended : now.ended ≡ false

pub IsPassing-more : (first now next : Reading) (passed most n : ℕ) → IsPassing first now passed → PassesSome now next most n → IsPassing first next (passed + n)
IsPassing-more first now next passed most n passing more = record {
  lost = passing.lost ++ more.part;
  count = omega (arith, length-append passing.lost more.part, passing.count, more.count);
  long = omega (arith, length-append passing.lost more.part, passing.long);
  whole = HasNoFeed-append passing.lost more.part passing.whole more.whole;
  left = Consumes-trans (ahead first) now.left next.left passing.lost more.part passing.left more.left;
  held = more.held;
  ended = more.ended;
}

-- bytes, then a part of them and a line feed, and then the rest
parts_fed : (lost part rest : List ℕ) → (lost ++ (part ++ 10 ∷ [])) ++ rest ≡ (lost ++ part) ++ 10 ∷ rest
parts_fed lost part rest =
    append_assoc lost (part ++ 10 ∷ []) rest ∙ ap (λ l. lost ++ l) (append_assoc part (10 ∷ []) rest) ∙ sym (append_assoc lost part (10 ∷ rest))

-- a long line was taken with its line feed
TakesLine-fed : (all after : Option (List ℕ)) (lost part : List ℕ) → Consumes all after (lost ++ (part ++ 10 ∷ [])) → HasNoFeed (lost ++ part)
    → line_bytes < length (lost ++ part) → length (lost ++ part) < endless_bytes → TakesLine all after Long
TakesLine-fed None after lost part consumes whole long within = tt
TakesLine-fed (Some all) None lost part consumes whole long within = absurd consumes
TakesLine-fed (Some all) (Some rest) lost part consumes whole long within =
    let raw = lost ++ part in
    let parts = consumes ∙ parts_fed lost part rest in (
      raw,
      within,
      sym (line_of-long raw long),
      record {
        whole = whole;
        first = ap raw_lines parts ∙ raw_lines-feed raw rest whole;
        ended = inl parts;
      },
    )

TakesFed-fed : (all after : Option (List ℕ)) (lost part : List ℕ) → Consumes all after (lost ++ (part ++ 10 ∷ [])) → HasNoFeed (lost ++ part)
    → line_bytes < length (lost ++ part) → TakesFed all after Long
TakesFed-fed None after lost part consumes whole long = tt
TakesFed-fed (Some all) None lost part consumes whole long = absurd consumes
TakesFed-fed (Some all) (Some rest) lost part consumes whole long = (lost ++ part, sym (line_of-long (lost ++ part) long), whole, consumes ∙ parts_fed lost part rest)

-- a long line was taken to the end of the source
TakesLine-end : (all after : Option (List ℕ)) (lost : List ℕ) → Consumes all after lost → IsAtEnd after → HasNoFeed lost
    → line_bytes < length lost → length lost < endless_bytes → TakesLine all after Long
TakesLine-end None after lost consumes end whole long within = tt
TakesLine-end (Some all) None lost consumes end whole long within = absurd consumes
TakesLine-end (Some all) (Some rest) lost consumes end whole long within =
    let same : lost ≡ all = sym (consumes ∙ ap (λ l. lost ++ l) end ∙ append-nil lost) in
    let some : lost ≢ [] = λ e. absurd (omega (arith, long, ap length e)) in
    let P : List ℕ → List ℕ → Type 0 = λ xs behind. TakesLine (Some xs) (Some behind) Long in
    subst (λ (l : List ℕ). P all l) (sym end) (subst (λ (l : List ℕ). P l []) same (lost, within, sym (line_of-long lost long), IsFirstLine-last lost whole some))

-- bytes without a line feed begin a line that is as long
BeginsTooLong-lost : (all after : Option (List ℕ)) (lost : List ℕ) → Consumes all after lost → HasNoFeed lost → endless_bytes ≤ length lost → BeginsTooLong all
BeginsTooLong-lost None after lost consumes whole endless = tt
BeginsTooLong-lost (Some all) None lost consumes whole endless = absurd consumes
BeginsTooLong-lost (Some all) (Some rest) lost consumes whole endless =
    let some : lost ≢ [] = λ e. absurd (omega (arith, endless, ap length e)) in
    let (more, others, begun) = raw_lines-begun lost rest whole some in
    (lost ++ more, others, ap raw_lines consumes ∙ begun, omega (arith, endless, length-append lost more))

module _ (first now next : Reading) (passed : ℕ) (passing : IsPassing first now passed) where
  fed_whole : (fed : PassesFeed now next (endless_bytes - passed)) → HasNoFeed (passing.lost ++ fed.part)
  fed_whole fed = HasNoFeed-append passing.lost fed.part passing.whole fed.whole

  fed_left : (fed : PassesFeed now next (endless_bytes - passed)) → Consumes (ahead first) (ahead next) (passing.lost ++ (fed.part ++ 10 ∷ []))
  fed_left fed = Consumes-trans (ahead first) now.left (ahead next) passing.lost (fed.part ++ 10 ∷ []) passing.left fed.ahead

  fed_long : (fed : PassesFeed now next (endless_bytes - passed)) → line_bytes < length (passing.lost ++ fed.part)
  fed_long fed = omega (arith, length-append passing.lost fed.part, passing.long)

  -- nothing is held, so what the source has left is all that is ahead
  end_left : (kept : Keeps now.left next.left) → next.held ≡ [] → Consumes (ahead first) (ahead next) passing.lost
  end_left kept held =
      let same : ahead next ≡ next.left = ap (λ h. prepend_known h next.left) held ∙ prepend_known-nil next.left in
      subst (λ (l : Option (List ℕ)). Consumes (ahead first) l passing.lost) (sym same) (Consumes-kept (ahead first) now.left next.left passing.lost passing.left kept)

  -- what was read when the line has ended
  pub TakesLine-passed : passed < endless_bytes → PassesFeed now next (endless_bytes - passed) ⊎ PassesEnd now next → TakesLine (ahead first) (ahead next) Long
  TakesLine-passed within ended = elim ended [
    | inl fed ↦ TakesLine-fed (ahead first) (ahead next) passing.lost fed.part (fed_left fed) (fed_whole fed) (fed_long fed)
        (omega (arith, length-append passing.lost fed.part, passing.count, fed.bound))
    | inr end ↦
        let at_end : IsAtEnd (ahead next) = subst IsAtEnd (sym (ap (λ h. prepend_known h next.left) end.held ∙ prepend_known-nil next.left)) end.at_end in
        TakesLine-end (ahead first) (ahead next) passing.lost (end_left end.kept end.held) at_end passing.whole passing.long (omega (arith, passing.count))
  ]

  pub TakesFed-passed : PassesFeed now next (endless_bytes - passed) ⊎ PassesEnd now next → next.ended ≡ false → TakesFed (ahead first) (ahead next) Long
  TakesFed-passed ended untold = elim ended [
    | inl fed ↦ TakesFed-fed (ahead first) (ahead next) passing.lost fed.part (fed_left fed) (fed_whole fed) (fed_long fed)
    | inr end ↦ let no : true ≡ false = sym end.ended ∙ untold in cc
  ]

  pub TakesAll-passed : PassesFeed now next (endless_bytes - passed) ⊎ PassesEnd now next → next.ended ≡ true → TakesAll first next
  TakesAll-passed ended told = elim ended [
    | inl fed ↦ let no : false ≡ true = sym fed.ended ∙ told in cc
    | inr end ↦
        let left = Consumes-kept (ahead first) now.left next.left passing.lost passing.left end.kept in
        record {
          whole = Consumes-whole (ahead first) next.left passing.lost HasNoFeed left end.at_end passing.whole;
          held = end.held;
          left = end.at_end;
        }
  ]

  -- what is lost when the source failed
  pub Loses-passed : Keeps now.left next.left → next.held ≡ [] → Loses first next
  Loses-passed kept held = record {
    lost = passing.lost;
    ahead = end_left kept held;
    whole = passing.whole;
    long = inr passing.long;
  }

module _ (first now : Reading) (passed : ℕ) (passing : IsPassing first now passed) (endless : passed ≡ endless_bytes) where
  pub IsEndless-passed : IsEndless first now
  unfolding Loses-passed
  IsEndless-passed =
      let same : passing.lost ++ now.held ≡ passing.lost = ap (λ l. passing.lost ++ l) passing.held ∙ append-nil passing.lost in
      record {
        loses = Loses-passed first now now passed passing (Keeps-refl now.left) passing.held;
        whole = subst HasNoFeed (sym same) passing.whole;
        endless = omega (arith, ap length same, passing.count);
      }

  pub BeginsTooLong-passed : BeginsTooLong (ahead first)
  BeginsTooLong-passed = BeginsTooLong-lost (ahead first) now.left passing.lost passing.left passing.whole (omega (arith, passing.count))

-- the bytes up to a line feed among those that were taken
Consumes-feed : (before after : Option (List ℕ)) (held : List ℕ) (place : ℕ) → Consumes before after held → HasFeedAt held place
    → Consumes before (prepend_known (drop (place + 1) held) after) (take place held ++ 10 ∷ [])
Consumes-feed None after held place consumes found = tt
Consumes-feed (Some xs) None held place consumes found = absurd consumes
Consumes-feed (Some xs) (Some ys) held place consumes found =
    consumes ∙ parts_at_feed held ys place found ∙ sym (append_assoc (take place held) (10 ∷ []) (drop (place + 1) held ++ ys))

-- a reader that held nothing gathered bytes with a line feed, and gave up those up to it
pub PassesFeed-found : (old mid new : Reading) (most place : ℕ) → Gathers old mid → old.held ≡ [] → HasFeedAt mid.held place → length mid.held ≤ most
    → new.held ≡ drop (place + 1) mid.held → new.left ≡ mid.left → new.ended ≡ false → PassesFeed old new most
PassesFeed-found old mid new most place gathers none found few held left ended =
    let all : gathers.part ≡ mid.held = sym (gathers.held ∙ ap (λ l. l ++ gathers.part) none) in
    let taken = subst (Consumes old.left mid.left) all gathers.left in
    record {
      part = take place mid.held;
      bound = omega (arith, length-take place mid.held, found.within);
      ahead = rw (held, left) (Consumes-feed old.left mid.left mid.held place taken found);
      whole = found.first;
      ended = ended;
    }

-- ---- the same over the bytes that a reader gathered before

Consumes-gathered : (old mid new : Reading) (lost : List ℕ) → Gathers old mid → Consumes (ahead mid) (ahead new) lost → Consumes (ahead old) (ahead new) lost
Consumes-gathered old mid new lost gathers consumes =
    Consumes-trans (ahead old) (ahead mid) (ahead new) [] lost (Consumes-none (ahead old) (ahead mid) (Keeps-gathers old mid gathers)) consumes

pub Loses-gathered : (old mid new : Reading) → Gathers old mid → Loses mid new → Loses old new
Loses-gathered old mid new gathers loses = record {
  lost = loses.lost;
  ahead = Consumes-gathered old mid new loses.lost gathers loses.ahead;
  whole = loses.whole;
  long = loses.long;
}

pub IsEndless-gathered : (old mid new : Reading) → Gathers old mid → IsEndless mid new → IsEndless old new
unfolding Loses-gathered
IsEndless-gathered old mid new gathers endless = record {
  loses = Loses-gathered old mid new gathers endless.loses;
  whole = endless.whole;
  endless = endless.endless;
}
