-- Keys and postings are read at their places.
use Rattle.std.proofs.Common.{◌≡◌, ℕ, zero, suc, ◌+◌, ◌%◌, ◌<◌, ◌≤◌, List, [], ◌∷◌, ◌++◌, length, map, take, drop, get_or, Some, Result, Ok, Err, IfOk, refl, sym, ap, subst, ◌∙◌, inl, inr, arith}
use Rattle.std.specs.Prelude.{IsSome, IsUtf8, slice_get}
use Rattle.std.proofs.lemmas.Bool.{cases_lt}
use Rattle.ci_front.proofs.FrontLemmas.{some_is}
use Rattle.ci_keys.specs.Key.{MayHaveWords}
use Rattle.ci_keys.specs.declared.key.Key.{Key}
use Rattle.ci_segment.specs.Postings.{IsSpelledPostings, Posting, postings_bytes}
use Rattle.ci_segment.specs.Segment.{IsSegment, Item, Spot, shared, spot_at}
use Rattle.ci_segment.specs.SegmentReading.{Fields, fields_at, word_before}
use Rattle.ci_segment.specs.Tail.{tail_at}
use Rattle.ci_segment.proofs.CommonLemmas.{joined}
use Rattle.ci_segment.proofs.ItemLemmas.{fields_of}
use Rattle.ci_segment.proofs.SpotLemmas.{shared_none, spot_after, spot_next}
use Rattle.ci_segment.proofs.TailLemmas.{item_here, tail_fields}

-- what stands at a place of a list
pub there_is : {X : Type 0} (xs : List X) (i : ℕ) → i < length xs → (x : X) × (x ≡ get_or xs i x) × (slice_get xs i ≡ Some x)
there_is [] i within = absurd (omega arith)
there_is (x ∷ xs) zero within = (x, refl, refl)
there_is (x ∷ xs) (suc i) within = there_is xs i (omega arith)

pub get_map : {X Y : Type 0} (f : X → Y) (xs : List X) (i : ℕ) (x : X) → slice_get xs i ≡ Some x → slice_get (map f xs) i ≡ Some (f x)
get_map f [] i x e = absurd cc
get_map f (y ∷ ys) zero x e = ap (λ z. Some (f z)) (some_is y x e)
get_map f (y ∷ ys) (suc i) x e = get_map f ys i x e

-- the fields at a place
pub fields_here : (items : List Item) (i : ℕ) (rest : List ℕ) (x : Item) → IsSegment items → i < length items → x ≡ get_or items i x → rest ≡ tail_at items i
    → fields_at rest ≡ Some (fields_of (spot_at items i) x, tail_at items (i + 1))
fields_here items i rest x is within at here =
    ap fields_at here ∙ tail_fields items i x is within at (spot_next items i x within at)

pub fields_some : (items : List Item) (i : ℕ) (rest : List ℕ) → IsSegment items → i < length items → rest ≡ tail_at items i → IsSome (fields_at rest)
fields_some items i rest is within here =
    let (x, at, found) = there_is items i within in
    rw (fields_here items i rest x is within at here) refl

-- a walk over the keys of a block, with the word of the last one
pub record IsWalked (items : List Item) (start at : ℕ) (rest : List ℕ) (property : ℕ) (word : List ℕ) : Type 0 where
  pub here : rest ≡ tail_at items at
  pub key : start < at → (spot_at items at).before ≡ Some (record { property = record { 0 = property }; word = word })

walked_word : (items : List Item) (start at : ℕ) (word : List ℕ) (property : ℕ) (x : Item) → start % 16 ≡ 0 → start ≤ at → at < length items
    → (start < at → (spot_at items at).before ≡ Some (record { property = record { 0 = property }; word = word }))
    → take (shared (spot_at items at) x.0) word ++ drop (shared (spot_at items at) x.0) x.0.word ≡ x.0.word
walked_word items start at word property x first above within key =
    elim (cases_lt start at) [
      | inl later ↦ (
          let w : word_before (spot_at items at).before ≡ word = ap word_before (key later) in
          ap (λ v. take (shared (spot_at items at) x.0) v ++ drop (shared (spot_at items at) x.0) x.0.word) (sym w) ∙ joined (spot_at items at) x.0)
      | inr none ↦ (
          let same : at ≡ start = omega (arith, none, above) in
          let zero_shared : shared (spot_at items at) x.0 ≡ 0 = shared_none items at x.0 (omega (arith, within)) (ap (λ n. n % 16) same ∙ first) in
          ap (λ s. take s word ++ drop s x.0.word) zero_shared)
    ]

pub walk_on : (items : List Item) (start at : ℕ) (rest : List ℕ) (property : ℕ) (word : List ℕ) (f : Fields) (after word_then : List ℕ) → IsSegment items → start % 16 ≡ 0 → start ≤ at → at < length items
    → IsWalked items start at rest property word → fields_at rest ≡ Some (f, after) → word_then ≡ take f.1.0 word ++ f.1.1.0 → IsWalked items start (at + 1) after f.0 word_then
walk_on items start at rest property word f after word_then is first above within so_far read grown =
    let (x, there, found) = there_is items at within in
    let e = some_is (f, after) (fields_of (spot_at items at) x, tail_at items (at + 1)) (sym read ∙ fields_here items at rest x is within there so_far.here) in
    let f_is : f ≡ fields_of (spot_at items at) x = ap (λ v. v.0) e in
    let w : word_then ≡ x.0.word = grown ∙ ap (λ (g : Fields). take g.1.0 word ++ g.1.1.0) f_is ∙ walked_word items start at word property x first above within so_far.key in
    let p : f.0 ≡ x.0.property.0 = ap (λ (g : Fields). g.0) f_is in
    record {
      here = ap (λ v. v.1) e;
      key = λ later. ap (λ (s : Spot). s.before) (spot_after items at x within there) ∙ (λ i. Some (record { property = record { 0 = sym p i }; word = sym w i }));
    }

-- the key at the end of a walk
pub walked_key : (items : List Item) (start index : ℕ) (rest : List ℕ) (property : ℕ) (word : List ℕ) → IsSegment items → start ≤ index → index < length items → IsWalked items start (index + 1) rest property word
    → IsUtf8 word × MayHaveWords property × (slice_get (map (λ (item : Item). item.0) items) index ≡ Some (record { property = record { 0 = property }; word = word }))
walked_key items start index rest property word is above within walked =
    let (x, there, found) = there_is items index within in
    let good = item_here items index x is within there in
    let k : Key = record { property = record { 0 = property }; word = word } in
    let same : x.0 ≡ k = some_is x.0 k (sym (ap (λ (s : Spot). s.before) (spot_after items index x within there)) ∙ walked.key (omega (arith, above))) in
    (subst (λ (j : Key). IsUtf8 j.word) same good.text, subst (λ (j : Key). MayHaveWords j.property.0) same good.key.property, get_map (λ (item : Item). item.0) items index x found ∙ ap (λ j. Some j) same)

-- the postings behind a walk
pub walked_postings : (items : List Item) (index : ℕ) (rest : List ℕ) (f : Fields) (after : List ℕ) → IsSegment items → index < length items → rest ≡ tail_at items index → fields_at rest ≡ Some (f, after)
    → (postings : List Posting) × IsSpelledPostings postings × (postings_bytes postings ≡ f.1.1.1) × (slice_get (map (λ (item : Item). item.1) items) index ≡ Some postings)
walked_postings items index rest f after is within here read =
    let (x, there, found) = there_is items index within in
    let good = item_here items index x is within there in
    let e = some_is (f, after) (fields_of (spot_at items index) x, tail_at items (index + 1)) (sym read ∙ fields_here items index rest x is within there here) in
    (x.1, good.postings, sym (ap (λ v. v.0.1.1.1) e), get_map (λ (item : Item). item.1) items index x found)

pub step_on : (items : List Item) (at : ℕ) (rest : List ℕ) (f : Fields) (after : List ℕ) → IsSegment items → at < length items → rest ≡ tail_at items at → fields_at rest ≡ Some (f, after) → after ≡ tail_at items (at + 1)
step_on items at rest f after is within here read =
    let (x, there, found) = there_is items at within in
    ap (λ v. v.1) (some_is (f, after) (fields_of (spot_at items at) x, tail_at items (at + 1)) (sym read ∙ fields_here items at rest x is within there here))

-- what is made of them is what stands at the place
pub made_at : {E : Type 0} (items : List Item) (index property : ℕ) (shown word : List ℕ) (made : Result Key E) → shown ≡ word → slice_get (map (λ (item : Item). item.0) items) index ≡ Some (record { property = record { 0 = property }; word = word })
    → IfOk made (λ key. key ≡ record { property = record { 0 = property }; word = shown }) → IfOk made (λ key. slice_get (map (λ (item : Item). item.0) items) index ≡ Some key)
made_at items index property shown word (Ok key) same there is =
    let all : key ≡ record { property = record { 0 = property }; word = word } = is ∙ ap (λ (w : List ℕ). record { property = record { 0 = property }; word = w }) same in
    there ∙ ap (λ (k : Key). Some k) (sym all)
made_at items index property shown word (Err e) same there is = tt

pub given_at : {E : Type 0} (items : List Item) (index : ℕ) (bytes : List ℕ) (postings : List Posting) (made : Result (List Posting) E) → IsSpelledPostings postings → postings_bytes postings ≡ bytes → slice_get (map (λ (item : Item). item.1) items) index ≡ Some postings
    → IfOk made (λ given. (other : List Posting) → IsSpelledPostings other → postings_bytes other ≡ bytes → given ≡ other) → IfOk made (λ given. slice_get (map (λ (item : Item). item.1) items) index ≡ Some given)
given_at items index bytes postings (Ok given) are spelled there is = there ∙ ap (λ p. Some p) (sym (is postings are spelled))
given_at items index bytes postings (Err e) are spelled there is = tt
