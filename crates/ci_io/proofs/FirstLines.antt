-- The first line of some bytes.
use Rattle.std.proofs.Common.{◌≡◌, ◌≢◌, ◌==◌, ℕ, ◌+◌, false, List, [], ◌∷◌, ◌++◌, take, drop, arith, sym, ◌∙◌, ap, inl, inr, eqb, refl, ne_eqb, add-one, if◌then◌else◌, append_assoc, take-append-drop}
use Rattle.std.proofs.lemmas.List.{drop_more}
use Rattle.ci_io.specs.Lines.{HasNoFeed, HasFeedAt, IsFirstLine, onto_first, raw_lines}

-- the bytes behind the first are free of line feeds too
HasNoFeed-tail : (b : ℕ) (bytes : List ℕ) → HasNoFeed (b ∷ bytes) → HasNoFeed bytes
HasNoFeed-tail b bytes none (k, within, feed) = none (k + 1, omega arith, rw add-one feed)

HasNoFeed-head : (b : ℕ) (bytes : List ℕ) → HasNoFeed (b ∷ bytes) → eqb b 10 ≡ false
HasNoFeed-head b bytes none = ne_eqb b 10 (λ same. none (0, omega arith, same))

-- a line feed ends a line
pub raw_lines-feed : (raw rest : List ℕ) → HasNoFeed raw → raw_lines (raw ++ 10 ∷ rest) ≡ raw ∷ raw_lines rest
raw_lines-feed [] rest none = refl
raw_lines-feed (b ∷ raw) rest none = rw (HasNoFeed-head b raw none, raw_lines-feed raw rest (HasNoFeed-tail b raw none))

-- what has no line feed is one line
pub raw_lines-last : (b : ℕ) (raw : List ℕ) → HasNoFeed (b ∷ raw) → raw_lines (b ∷ raw) ≡ (b ∷ raw) ∷ []
raw_lines-last b [] none = rw (HasNoFeed-head b [] none)
raw_lines-last b (c ∷ raw) none = rw (HasNoFeed-head b (c ∷ raw) none, raw_lines-last c raw (HasNoFeed-tail b (c ∷ raw) none))

-- a line that has no end yet goes on with what follows
pub raw_lines-begun : (held rest : List ℕ) → HasNoFeed held → held ≢ [] → (more : List ℕ) × (others : List (List ℕ)) × (raw_lines (held ++ rest) ≡ (held ++ more) ∷ others)
raw_lines-begun [] rest none some = absurd (some refl)
raw_lines-begun (b ∷ []) rest none some = elim (raw_lines rest) as (λ ls. (more : List ℕ) × (others : List (List ℕ)) × ((if b == 10 then [] ∷ ls else onto_first b ls) ≡ ((b ∷ []) ++ more) ∷ others)) [
  | [] ↦ ([], [], rw (HasNoFeed-head b [] none))
  | line ∷ others ↦ (line, others, rw (HasNoFeed-head b [] none))
]
raw_lines-begun (b ∷ c ∷ held) rest none some =
    let (more, others, begun) = raw_lines-begun (c ∷ held) rest (HasNoFeed-tail b (c ∷ held) none) (λ e. cc) in
    (more, others, rw (HasNoFeed-head b (c ∷ held) none, begun))

-- a line feed parts the bytes
pub parts_at_feed : (held rest : List ℕ) (place : ℕ) → HasFeedAt held place → held ++ rest ≡ take place held ++ 10 ∷ (drop (place + 1) held ++ rest)
parts_at_feed held rest place found =
    let raw = take place held in
    ap (λ l. l ++ rest) (sym (take-append-drop place held) ∙ ap (λ l. raw ++ l) (drop_more held place 0 found.within ∙ ap (λ b. b ∷ drop (place + 1) held) found.feed))
    ∙ append_assoc raw (10 ∷ drop (place + 1) held) rest

-- bytes with a line feed begin with the line before it
pub IsFirstLine-feed : (held rest : List ℕ) (place : ℕ) → HasFeedAt held place → IsFirstLine (take place held) (held ++ rest) (drop (place + 1) held ++ rest)
IsFirstLine-feed held rest place found =
    let raw = take place held in
    let behind = drop (place + 1) held ++ rest in
    let parts = parts_at_feed held rest place found in
    record {
      whole = found.first;
      first = ap raw_lines parts ∙ raw_lines-feed raw behind found.first;
      ended = inl parts;
    }

-- the last line has no line feed
pub IsFirstLine-last : (raw : List ℕ) → HasNoFeed raw → raw ≢ [] → IsFirstLine raw raw []
IsFirstLine-last [] none some = absurd (some refl)
IsFirstLine-last (b ∷ raw) none some = record {
  whole = none;
  first = raw_lines-last b raw none;
  ended = inr (refl, (λ e. cc), refl);
}
