-- One word more is filed.
use Rattle.std.proofs.Common.{◌≡◌, ℕ, ◌+◌, ◌<◌, Bool, true, false, cond, List, [], ◌∷◌, ◌++◌, length, take, get_or, Option, Some, None, inl, inr, refl, sym, ap, ◌∙◌, arith, append-nil, append_assoc, length-append}
use Rattle.std.specs.BTreeMap.{BTreeMap, get}
use Rattle.std.specs.Cmp.{Equal-is}
use Rattle.std.specs.Global.{Vec}
use Rattle.std.specs.List.{filter_map}
use Rattle.std.specs.Ordering.{is_eq}
use Rattle.std.proofs.lemmas.Bool.{cases_Bool}
use Rattle.std.proofs.lemmas.List.{take_more}
use Rattle.std.proofs.lemmas.List.Elements.{filter_map-append}
use Rattle.ci_base.specs.declared.numbers.DocNo.{DocNo}
use Rattle.ci_base.specs.declared.numbers.Place.{Place}
use Rattle.ci_keys.specs.declared.key.Key.{Key}
use Rattle.ci_keys.specs.Key.{key_cmp}
use Rattle.ci_keys.proofs.Keys.{key_cmp-IsAntisymmetric}
use Rattle.ci_wordlist.specs.Filing.{NoneEmpty, Posting, Words, filed, held, items_of, posting_of}

one_posting : (b : Bool) (p : Posting) (word : Key × List Place) (key : Key) → is_eq (key_cmp word.0 key) ≡ b → p ≡ (p.0, word.1) → filter_map (posting_of key p.0) (word ∷ []) ≡ cond b (p ∷ []) []
one_posting true p word key equal is = rw equal (ap (λ q. q ∷ []) (sym is))
one_posting false p word key apart is = rw apart refl

pub filed_more : (key : Key) (doc : DocNo) (words : Words) (i : ℕ) (word : Key × List Place) → i < length words → word ≡ get_or words i word
    → filed key (doc, take (i + 1) words) ≡ filed key (doc, take i words) ++ cond (is_eq (key_cmp word.0 key)) ((doc, word.1) ∷ []) []
filed_more key doc words i word within is =
    ap (filter_map (posting_of key doc)) (take_more words i word within ∙ ap (λ v. take i words ++ v ∷ []) (sym is))
    ∙ filter_map-append (posting_of key doc) (take i words) (word ∷ [])
    ∙ ap (λ ps. filter_map (posting_of key doc) (take i words) ++ ps) (one_posting (is_eq (key_cmp word.0 key)) (doc, word.1) word key refl refl)

-- the words so far are filed, and then one more
pub words_held : (key : Key) (doc : DocNo) (words : Words) (i : ℕ) (word : Key × List Place) (old before after : List Posting) → i < length words → word ≡ get_or words i word
    → before ≡ old ++ filed key (doc, take i words) → after ≡ before ++ cond (is_eq (key_cmp word.0 key)) ((doc, word.1) ∷ []) [] → after ≡ old ++ filed key (doc, take (i + 1) words)
words_held key doc words i word old before after within is so_far more =
    more ∙ ap (λ ps. ps ++ cond (is_eq (key_cmp word.0 key)) ((doc, word.1) ∷ []) []) so_far
    ∙ append_assoc old (filed key (doc, take i words)) _ ∙ ap (λ ps. old ++ ps) (sym (filed_more key doc words i word within is))

abbrev some_of : Vec Posting → Option (Vec Posting)
some_of v = Some v

module _ (old mid new : BTreeMap Key (Vec Posting)) (key : Key) (posting : Posting) (postings : Vec Posting)
    (out : (q : Key) → get key_cmp mid q ≡ cond (is_eq (key_cmp key q)) None (get key_cmp old q))
    (put : (q : Key) → get key_cmp new q ≡ cond (is_eq (key_cmp key q)) (Some postings) (get key_cmp mid q))
    (more : postings.items ≡ held old key ++ posting ∷ []) where
  here : (q : Key) → is_eq (key_cmp key q) ≡ true → get key_cmp new q ≡ Some postings
  here q equal = put q ∙ ap (λ b. cond b (Some postings) (get key_cmp mid q)) equal

  elsewhere : (q : Key) → is_eq (key_cmp key q) ≡ false → get key_cmp new q ≡ get key_cmp old q
  elsewhere q apart = put q ∙ ap (λ b. cond b (Some postings) (get key_cmp mid q)) apart ∙ out q ∙ ap (λ b. cond b None (get key_cmp old q)) apart

  -- the posting stands behind what was filed under its key, and nothing else changes
  pub word_held : (q : Key) → held new q ≡ held old q ++ cond (is_eq (key_cmp key q)) (posting ∷ []) []
  word_held q =
      elim (cases_Bool (is_eq (key_cmp key q))) [
        | inl equal ↦ (
            let same : key ≡ q = key_cmp-IsAntisymmetric key q ((Equal-is (key_cmp key q)).0 equal) in
            ap items_of (here q equal) ∙ more ∙ ap (λ k. held old k ++ posting ∷ []) same ∙ ap (λ b. held old q ++ cond b (posting ∷ []) []) (sym equal))
        | inr apart ↦ (
            ap items_of (elsewhere q apart) ∙ sym (append-nil (held old q)) ∙ ap (λ b. held old q ++ cond b (posting ∷ []) []) (sym apart))
      ]

  pub word_some : NoneEmpty old → NoneEmpty new
  word_some none q found e =
      elim (cases_Bool (is_eq (key_cmp key q))) [
        | inl equal ↦ (λ empty.
            let same : some_of postings ≡ some_of found = sym (here q equal) ∙ e in
            let items : postings.items ≡ found.items = ap items_of same in
            absurd (omega (arith, length-append (held old key) (posting ∷ []), ap length more, ap length items, ap length empty)))
        | inr apart ↦ none q found (sym (elsewhere q apart) ∙ e)
      ]
