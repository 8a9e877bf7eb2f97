-- A key is read exactly where it is spelled.
use Rattle.std.proofs.Common.{◌≡◌, ◌≢◌, ℕ, ◌^◌, ◌<◌, ◌≤◌, ◌&&◌, true, false, cond, eqb, List, [], ◌∷◌, ◌++◌, length, take, drop, Option, Some, None, refl, sym, ap, subst, ◌∙◌, arith}
use Rattle.std.specs.Prelude.{IsUtf8}
use Rattle.std.specs.Ordering.{is_lt}
use Rattle.std.specs.Str.{is_utf8}
use Rattle.std.proofs.lemmas.Bool.{and_parts, and_from, eqb-true, eq-eqb, false_from_ne_true}
use Rattle.std.proofs.lemmas.List.{drop_at, take_at, length-take, length-drop}
use Rattle.std.proofs.lemmas.Str.{IsUtf8-from_is_utf8, is_utf8-from_IsUtf8}
use Rattle.ci_base.specs.Varint.{varint}
use Rattle.ci_front.specs.Front.{number_at, sized, sized_at}
use Rattle.ci_front.proofs.FrontLemmas.{AreBytes, AreBytes-rest, AreBytes-take, IsCode, bind_some, guard_holds, number_code, sized_code}
use Rattle.ci_front.proofs.CodeLemmas.{both_code}
use Rattle.ci_keys.specs.Key.{key_cmp}
use Rattle.ci_keys.specs.declared.key.Key.{Key}
use Rattle.ci_segment.specs.Postings.{Posting, postings_bytes}
use Rattle.ci_segment.specs.Reading.{postings_of}
use Rattle.ci_segment.specs.Segment.{IsAfter, IsItemAt, Item, Spot, item_bytes, shared}
use Rattle.ci_segment.specs.SegmentReading.{Fields, are_some, fields_at, has_word, is_after, is_index_key, is_item_at, is_key_at, item_at, item_of, key_of, listed, may_have_words, word_before}
use Rattle.ci_segment.proofs.CommonLemmas.{joined, key_from_test, less_from_test, shared_short, shared_within, small_property, test_from_key}
use Rattle.ci_segment.proofs.PostingsLemmas.{postings_again, postings_take}

abbrev pub fields_bytes : Fields → List ℕ
fields_bytes f = varint f.0 ++ (varint f.1.0 ++ (sized f.1.1.0 ++ sized f.1.1.1))

abbrev pub FitFields : Fields → Type 0
FitFields f = (f.0 < 2 ^ 64) × ((f.1.0 < 2 ^ 64) × ((length f.1.1.0 < 2 ^ 64) × (length f.1.1.1 < 2 ^ 64)))

pub fields_code : IsCode fields_bytes FitFields fields_at
unfolding fields_at
fields_code =
    both_code varint _ number_at _ _ _ number_code (both_code varint _ number_at _ _ _ number_code (both_code sized _ sized_at sized _ sized_at sized_code sized_code))

-- the fields of a key
abbrev pub fields_of : Spot → Item → Fields
fields_of spot item = (item.0.property.0, (shared spot item.0, (drop (shared spot item.0) item.0.word, postings_bytes item.1)))

AreBytes-front : (front rest : List ℕ) → AreBytes (front ++ rest) → AreBytes front
AreBytes-front front rest fits = subst (λ xs. AreBytes xs) (take_at front rest (length front) refl) (AreBytes-take (length front) (front ++ rest) fits)

AreBytes-back : (front rest : List ℕ) → AreBytes (front ++ rest) → AreBytes rest
AreBytes-back front rest fits = AreBytes-rest front rest (front ++ rest) refl fits

-- the bytes of the postings are bytes
last_field : (f : Fields) (rest bytes : List ℕ) → bytes ≡ fields_bytes f ++ rest → AreBytes bytes → AreBytes f.1.1.1
last_field f rest bytes e fits =
    let whole : AreBytes (fields_bytes f) = AreBytes-front (fields_bytes f) rest (subst (λ xs. AreBytes xs) e fits) in
    let second = AreBytes-back (varint f.0) _ whole in
    let third = AreBytes-back (varint f.1.0) _ second in
    let fourth = AreBytes-back (sized f.1.1.0) (sized f.1.1.1) third in
    AreBytes-back (varint (length f.1.1.1)) f.1.1.1 fourth

some_listed : (r : Option (List Posting)) → are_some r ≡ true → (r ≡ Some (listed r)) × (listed r ≢ [])
some_listed None e = absurd cc
some_listed (Some []) e = absurd cc
some_listed (Some (p ∷ ps)) e = (refl, λ none. let size : length (p ∷ ps) ≡ 0 = ap length none in omega arith)

after_from_test : (before : Option Key) (key : Key) → is_after before key ≡ true → IsAfter before key
after_from_test None key e = tt
after_from_test (Some b) key e = less_from_test (key_cmp b key) e

test_from_after : (before : Option Key) (key : Key) → IsAfter before key → is_after before key ≡ true
test_from_after None key after = refl
test_from_after (Some b) key after = ap is_lt after

item_there : (spot : Spot) (f : Fields) → FitFields f → AreBytes f.1.1.1 → is_item_at spot f ≡ true → IsItemAt spot (item_of spot f) × (fields_of spot (item_of spot f) ≡ f)
item_there spot f fits bytes good =
    let parts = and_parts (is_key_at spot f) (are_some (postings_of f.1.1.1)) good in
    let same = and_parts _ _ parts.0 in
    let after = and_parts _ _ same.1 in
    let key = and_parts _ _ after.1 in
    let some = some_listed (postings_of f.1.1.1) parts.1 in
    let took = postings_take f.1.1.1 (listed (postings_of f.1.1.1)) bytes some.0 in
    let s_is : shared spot (key_of spot f) ≡ f.1.0 = eqb-true _ _ same.0 in
    let short : f.1.0 ≤ length (word_before spot.before) = omega (arith, s_is, shared_short spot (key_of spot f)) in
    let d_is : drop (shared spot (key_of spot f)) (key_of spot f).word ≡ f.1.1.0 =
    ap (λ s. drop s (key_of spot f).word) s_is ∙ drop_at (take f.1.0 (word_before spot.before)) f.1.1.0 f.1.0 (omega (arith, length-take f.1.0 (word_before spot.before))) in
    let p_is : postings_bytes (listed (postings_of f.1.1.1)) ≡ f.1.1.1 = took.1 in (
      record {
        key = key_from_test (key_of spot f) key.0;
        text = IsUtf8-from_is_utf8 (key_of spot f).word key.1;
        after = after_from_test spot.before (key_of spot f) after.0;
        some = some.1;
        postings = took.0;
        few = omega (arith, fits.1.1.1, ap length p_is);
      },
      λ i. (f.0, (s_is i, (d_is i, p_is i))),
    )

pub same_key : (spot : Spot) (item : Item) → key_of spot (fields_of spot item) ≡ item.0
same_key spot item = let w_is = joined spot item.0 in λ i. record { property = item.0.property; word = w_is i }

listed_some : (r : Option (List Posting)) (ps : List Posting) → r ≡ Some ps → ps ≢ [] → (are_some r ≡ true) × (listed r ≡ ps)
listed_some None ps e some = absurd cc
listed_some (Some []) ps e some = absurd (some (sym (ap listed e)))
listed_some (Some (q ∷ qs)) ps e some = (refl, ap listed e)

fit_fields : (spot : Spot) (item : Item) → IsItemAt spot item → FitFields (fields_of spot item)
fit_fields spot item is =
    let property = small_property item.0.property.0 is.key.property in
    let word = is.key.short in
    let short : shared spot item.0 < 2 ^ 64 = omega (arith, word, shared_within spot item.0) in
    (omega (arith, property), (short, (omega (arith, word, length-drop (shared spot item.0) item.0.word), is.few)))

item_here : (spot : Spot) (item : Item) → IsItemAt spot item → FitFields (fields_of spot item) × (is_item_at spot (fields_of spot item) ≡ true) × (item_of spot (fields_of spot item) ≡ item)
item_here spot item is =
    let k_is = same_key spot item in
    let read = listed_some (postings_of (postings_bytes item.1)) item.1 (postings_again item.1 is.postings) is.some in
    let key : is_key_at spot (fields_of spot item) ≡ true =
    subst (λ (k : Key). (eqb (shared spot k) (shared spot item.0) && (is_after spot.before k && (is_index_key k && is_utf8 k.word))) ≡ true) (sym k_is)
    (and_from _ _ (eq-eqb (shared spot item.0) (shared spot item.0) refl)
    (and_from _ _ (test_from_after spot.before item.0 is.after) (and_from _ _ (test_from_key item.0 is.key) (is_utf8-from_IsUtf8 item.0.word is.text)))) in
    let p_is = read.1 in
    (fit_fields spot item is, and_from _ _ key read.0, λ i. (k_is i, p_is i))

item_takes : (spot : Spot) (bytes : List ℕ) (item : Item) (rest : List ℕ) → AreBytes bytes → item_at spot bytes ≡ Some (item, rest) → IsItemAt spot item × (bytes ≡ item_bytes spot item ++ rest)
unfolding item_at
item_takes spot bytes item rest fits e =
    let first = bind_some (fields_at bytes) (λ x. cond (is_item_at spot x.0) (Some (item_of spot x.0, x.1)) None) (item, rest) e in
    let last = guard_holds (is_item_at spot first.0.0) (item_of spot first.0.0, first.0.1) (item, rest) first.2 in
    let tx = fields_code.takes bytes first.0.0 first.0.1 fits first.1 in
    let is = item_there spot first.0.0 tx.0 (last_field first.0.0 first.0.1 bytes tx.1 fits) last.0 in
    let whole : bytes ≡ fields_bytes (fields_of spot (item_of spot first.0.0)) ++ first.0.1 = tx.1 ∙ ap (λ f. fields_bytes f ++ first.0.1) (sym is.1) in
    subst (λ (v : Item × List ℕ). IsItemAt spot v.0 × (bytes ≡ item_bytes spot v.0 ++ v.1)) last.1 (is.0, whole)

-- the fields of a spelled key
pub fields_again : (spot : Spot) (item : Item) (rest : List ℕ) → IsItemAt spot item → fields_at (item_bytes spot item ++ rest) ≡ Some (fields_of spot item, rest)
fields_again spot item rest is = fields_code.again (fields_of spot item) rest (fit_fields spot item is)

item_again : (spot : Spot) (item : Item) (rest : List ℕ) → IsItemAt spot item → item_at spot (item_bytes spot item ++ rest) ≡ Some (item, rest)
unfolding item_at
item_again spot item rest is =
    let here = item_here spot item is in
    rw (fields_again spot item rest is, here.1) (ap (λ v. Some (v, rest)) here.2)

pub item_code : (spot : Spot) → IsCode (item_bytes spot) (IsItemAt spot) (item_at spot)
item_code spot = record { takes = item_takes spot; again = item_again spot }

-- ---- a key, read

-- no key that may stand there
pub key_bad : (at : ℕ) (before : Option Key) (f : Fields) (word : List ℕ) → word ≡ word_before before → (f.1.0 ≤ length word → IsUtf8 (take f.1.0 word ++ f.1.1.0) → ⊥) → is_key_at (record { at = at; before = before }) f ≡ false
key_bad at before f word is never =
    let spot : Spot = record { at = at; before = before } in
    false_from_ne_true (is_key_at spot f) (λ good.
    let same = and_parts (eqb (shared spot (key_of spot f)) f.1.0) (is_after before (key_of spot f) && (is_index_key (key_of spot f) && is_utf8 (key_of spot f).word)) good in
    let after = and_parts (is_after before (key_of spot f)) (is_index_key (key_of spot f) && is_utf8 (key_of spot f).word) same.1 in
    let key = and_parts (is_index_key (key_of spot f)) (is_utf8 (key_of spot f).word) after.1 in
    let s_is : shared spot (key_of spot f) ≡ f.1.0 = eqb-true (shared spot (key_of spot f)) f.1.0 same.0 in
    let short : f.1.0 ≤ length (word_before before) = omega (arith, s_is, shared_short spot (key_of spot f)) in
    let text : IsUtf8 (key_of spot f).word = IsUtf8-from_is_utf8 (key_of spot f).word key.1 in
    never (subst (λ w. f.1.0 ≤ length w) (sym is) short) (subst (λ w. IsUtf8 (take f.1.0 w ++ f.1.1.0)) (sym is) text))

pub key_good : (at : ℕ) (before : Option Key) (f : Fields) (shown word : List ℕ) → shown ≡ word_before before → word ≡ take f.1.0 shown ++ f.1.1.0 → IsUtf8 (take f.1.0 shown ++ f.1.1.0) → may_have_words f.0 ≡ true
    → (eqb (shared (record { at = at; before = before }) (record { property = record { 0 = f.0 }; word = word })) f.1.0
    && (is_after before (record { property = record { 0 = f.0 }; word = word }) && has_word (record { property = record { 0 = f.0 }; word = word }))) ≡ true
    → (record { property = record { 0 = f.0 }; word = word } ≡ key_of (record { at = at; before = before }) f) × (is_key_at (record { at = at; before = before }) f ≡ true)
key_good at before f shown word is grown text property stands =
    let spot : Spot = record { at = at; before = before } in
    let k : Key = record { property = record { 0 = f.0 }; word = word } in
    let w_is : word ≡ (key_of spot f).word = grown ∙ ap (λ w. take f.1.0 w ++ f.1.1.0) is in
    let k_is : k ≡ key_of spot f = λ i. record { property = record { 0 = f.0 }; word = w_is i } in
    let same = and_parts (eqb (shared spot k) f.1.0) (is_after before k && has_word k) stands in
    let after = and_parts (is_after before k) (has_word k) same.1 in
    let utf8 : is_utf8 word ≡ true = is_utf8-from_IsUtf8 word (subst (λ w. IsUtf8 w) (sym grown) text) in
    let all : (eqb (shared spot k) f.1.0 && (is_after before k && (is_index_key k && is_utf8 k.word))) ≡ true =
    and_from (eqb (shared spot k) f.1.0) (is_after before k && (is_index_key k && is_utf8 k.word)) same.0
    (and_from (is_after before k) (is_index_key k && is_utf8 k.word) after.0 (and_from (is_index_key k) (is_utf8 k.word) (and_from (may_have_words f.0) (has_word k) property after.1) utf8)) in
    (k_is, subst (λ (j : Key). (eqb (shared spot j) f.1.0 && (is_after before j && (is_index_key j && is_utf8 j.word))) ≡ true) k_is all)

pub item_read : (spot : Spot) (bytes : List ℕ) (f : Fields) (rest : List ℕ) (key : Key) → fields_at bytes ≡ Some (f, rest) → key ≡ key_of spot f → is_key_at spot f ≡ true → are_some (postings_of f.1.1.1) ≡ true
    → (postings : List Posting) × (item_at spot bytes ≡ Some ((key, postings), rest))
unfolding item_at
item_read spot bytes f rest key read is good some =
    let both : is_item_at spot f ≡ true = and_from (is_key_at spot f) (are_some (postings_of f.1.1.1)) good some in
    (listed (postings_of f.1.1.1), rw (read, both) (λ i. Some ((sym is i, listed (postings_of f.1.1.1)), rest)))
