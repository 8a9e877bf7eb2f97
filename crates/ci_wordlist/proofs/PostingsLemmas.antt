-- What is filed under a key of documents in order are postings.
use Rattle.std.proofs.Common.{◌≡◌, ◌⊎◌, true, false, List, [], ◌∷◌, ◌++◌, map, Contains, inl, inr, refl, sym, ap, subst, ◌∙◌}
use Rattle.std.specs.declared.cmp.Ordering.TheVariants.{Less, Greater}
use Rattle.std.specs.Cmp.{Equal-is}
use Rattle.std.specs.List.{AllByRecursion}
use Rattle.std.specs.Ordering.{is_eq, nat_cmp, ordering_reverse}
use Rattle.std.proofs.lemmas.Bool.{cases_Bool}
use Rattle.std.proofs.lemmas.Cmp.{nat_cmp_total}
use Rattle.std.proofs.lemmas.List.Concat.{flat_map-cons}
use Rattle.std.proofs.lemmas.List.Elements.{All-contains, Contains-append_cases}
use Rattle.std.proofs.lemmas.Map.Keys.{sorted_tail}
use Rattle.ci_base.specs.declared.numbers.DocNo.{DocNo}
use Rattle.ci_base.specs.declared.numbers.Place.{Place}
use Rattle.ci_keys.specs.declared.key.Key.{Key}
use Rattle.ci_keys.specs.Entry.{IsWords}
use Rattle.ci_keys.specs.Key.{key_cmp}
use Rattle.ci_keys.specs.Order.{Ascends}
use Rattle.ci_keys.specs.Places.{IsPlaces}
use Rattle.ci_keys.specs.Postings.{IsPostings}
use Rattle.ci_keys.proofs.Keys.{key_cmp_total, key_cmp-IsAntisymmetric}
use Rattle.ci_keys.proofs.OneForm.{Contains-cons_cases, Contains-first, Contains-later, Less-later, none_in_empty}
use Rattle.ci_wordlist.specs.Filing.{Document, Posting, Words, filed, postings_of}
use Rattle.ci_wordlist.proofs.OrderLemmas.{Ascends-cons, Ascends-nil, all_from}

-- what a word files
hit : (key : Key) (n : DocNo) (word : Key × List Place) (words : Words) → is_eq (key_cmp word.0 key) ≡ true → filed key (n, word ∷ words) ≡ (n, word.1) ∷ filed key (n, words)
hit key n word words equal = rw equal refl

miss : (key : Key) (n : DocNo) (word : Key × List Place) (words : Words) → is_eq (key_cmp word.0 key) ≡ false → filed key (n, word ∷ words) ≡ filed key (n, words)
miss key n word words apart = rw apart refl

-- what is filed under a key is a word of the document
in_filed : (key : Key) (n : DocNo) (words : Words) (p : Posting) → Contains (filed key (n, words)) p → (p.0 ≡ n) × Contains words (key, p.1)
in_filed key n [] p has = absurd (none_in_empty p has)
in_filed key n (word ∷ words) p has =
    elim (cases_Bool (is_eq (key_cmp word.0 key))) [
      | inl equal ↦ (
          let same : word.0 ≡ key = key_cmp-IsAntisymmetric word.0 key ((Equal-is (key_cmp word.0 key)).0 equal) in
          elim (Contains-cons_cases (n, word.1) (filed key (n, words)) p (subst (λ ps. Contains ps p) (hit key n word words equal) has)) [
            | inl first ↦ (sym (ap (λ q. q.0) first), subst (Contains (word ∷ words)) (λ i. (same i, ap (λ q. q.1) first i)) (Contains-first word words))
            | inr later ↦ let r = in_filed key n words p later in (r.0, Contains-later word words (key, p.1) r.1)
          ])
      | inr apart ↦ let r = in_filed key n words p (subst (λ ps. Contains ps p) (miss key n word words apart) has) in (r.0, Contains-later word words (key, p.1) r.1)
    ]

pub in_postings : (key : Key) (all : List Document) (p : Posting) → Contains (postings_of key all) p → (d : Document) × Contains all d × (p.0 ≡ d.0) × Contains d.1 (key, p.1)
in_postings key [] p has = absurd (none_in_empty p has)
in_postings key (d ∷ all) p has =
    elim (Contains-append_cases (filed key d) (postings_of key all) p (subst (λ ps. Contains ps p) (flat_map-cons (filed key) d all) has)) [
      | inl first ↦ let r = in_filed key d.0 d.1 p first in (d, Contains-first d all, r.0, r.1)
      | inr later ↦ let (e, there, doc, word) = in_postings key all p later in (e, Contains-later d all e there, doc, word)
    ]

-- keys above the key file nothing under it
none_filed : (key : Key) (n : DocNo) (words : Words) → ((z : Key × List Place) → Contains words z → key_cmp key z.0 ≡ Less) → filed key (n, words) ≡ []
none_filed key n [] above = refl
none_filed key n (word ∷ words) above =
    let less = above word (Contains-first word words) in
    let greater : key_cmp word.0 key ≡ Greater = key_cmp_total.antisymm word.0 key ∙ ap ordering_reverse less in
    miss key n word words (ap is_eq greater) ∙ none_filed key n words (λ z has. above z (Contains-later word words z has))

-- a document files one posting under a key, or none
filed_cases : (key : Key) (n : DocNo) (words : Words) → Ascends (λ word. word.0) key_cmp words → (filed key (n, words) ≡ []) ⊎ ((places : List Place) × (filed key (n, words) ≡ (n, places) ∷ []))
filed_cases key n [] up = inl refl
filed_cases key n (word ∷ words) up =
    elim (cases_Bool (is_eq (key_cmp word.0 key))) [
      | inl equal ↦ (
          let same : word.0 ≡ key = key_cmp-IsAntisymmetric word.0 key ((Equal-is (key_cmp word.0 key)).0 equal) in
          let later = none_filed key n words (λ z has. subst (λ k. key_cmp k z.0 ≡ Less) same (Less-later key_cmp_total (λ (w : Key × List Place). w.0) word words z up has)) in
          inr (word.1, hit key n word words equal ∙ ap (λ ps. (n, word.1) ∷ ps) later))
      | inr apart ↦ elim (filed_cases key n words (sorted_tail key_cmp word.0 (map (λ (w : Key × List Place). w.0) words) up)) [
        | inl none ↦ inl (miss key n word words apart ∙ none)
        | inr some ↦ inr (some.0, miss key n word words apart ∙ some.1)
      ]
    ]

abbrev Up : List Document → Type 0
Up all = Ascends (λ document. document.0.0) nat_cmp all

postings_up : (key : Key) (all : List Document) → Up all → AllByRecursion (λ document. IsWords document.1) all → Ascends (λ p. p.0.0) nat_cmp (postings_of key all)
postings_up key [] up words = Ascends-nil (λ (p : Posting). p.0.0) nat_cmp
postings_up key (d ∷ all) up words =
    let later = postings_up key all (sorted_tail nat_cmp d.0.0 (map (λ (e : Document). e.0.0) all) up) words.1 in
    let whole : postings_of key (d ∷ all) ≡ filed key d ++ postings_of key all = flat_map-cons (filed key) d all in
    elim (filed_cases key d.0 d.1 words.0.ascend) [
      | inl none ↦ subst (Ascends (λ (p : Posting). p.0.0) nat_cmp) (sym (whole ∙ ap (λ ps. ps ++ postings_of key all) none)) later
      | inr some ↦ subst (Ascends (λ (p : Posting). p.0.0) nat_cmp) (sym (whole ∙ ap (λ ps. ps ++ postings_of key all) some.1))
          (Ascends-cons (λ (p : Posting). p.0.0) nat_cmp (d.0, some.0) (postings_of key all) (λ z has.
          let (e, there, doc, word) = in_postings key all z has in
          subst (λ n. nat_cmp d.0.0 n.0 ≡ Less) (sym doc) (Less-later nat_cmp_total (λ (e : Document). e.0.0) d all e up there)) later)
    ]

all_words : (all : List Document) → AllByRecursion (λ document. IsWords document.1) all → (d : Document) → Contains all d → IsWords d.1
all_words [] words d has = absurd (none_in_empty d has)
all_words (e ∷ all) words d has =
    elim (Contains-cons_cases e all d has) [
      | inl first ↦ subst (λ (f : Document). IsWords f.1) first words.0
      | inr later ↦ all_words all words.1 d later
    ]

-- a key under which something is filed is a word of some document
pub word_of : (all : List Document) → AllByRecursion (λ document. IsWords document.1) all → (key : Key) (p : Posting) → Contains (postings_of key all) p → (words : Words) × IsWords words × Contains words (key, p.1)
word_of all words key p has = let (d, there, doc, word) = in_postings key all p has in (d.1, all_words all words d there, word)

pub postings_are : (key : Key) (all : List Document) → Up all → AllByRecursion (λ document. IsWords document.1) all → IsPostings (postings_of key all)
postings_are key all up words = record {
  places = all_from (λ (p : Posting). IsPlaces p.1) (postings_of key all) (λ p has.
      let (ws, are, word) = word_of all words key p has in All-contains (λ (w : Key × List Place). IsPlaces w.1) ws (key, p.1) are.places word);
  ascend = postings_up key all up words;
}
