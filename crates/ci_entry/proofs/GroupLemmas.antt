-- One more place of a word, behind those of words in order.
use Rattle.std.proofs.Common.{◌≡◌, ℕ, ◌+◌, true, false, List, [], ◌∷◌, ◌++◌, map, length, get_or, set, refl, sym, ap, ◌∙◌, arith, append_assoc}
use Rattle.std.specs.Cmp.{Equal-is}
use Rattle.std.specs.Ordering.{is_eq}
use Rattle.std.proofs.lemmas.List.{map-append}
use Rattle.ci_base.specs.declared.numbers.Place.{Place}
use Rattle.ci_keys.specs.declared.key.Key.{Key}
use Rattle.ci_keys.specs.Key.{key_cmp}
use Rattle.ci_keys.proofs.Keys.{key_cmp_total}
use Rattle.ci_entry.specs.Gather.{gathered}
use Rattle.ci_entry.specs.Words.{Word, at_one_place, both_places, grouped, one_key}
use Rattle.ci_entry.proofs.GatherLemmas.{JoinsWell, pushed, pushed-joined, pushed-apart, gathered-push}

words-JoinWell : JoinsWell one_key both_places
words-JoinWell = record {
  front = λ a b c same. ap is_eq (key_cmp_total.congr a.0 b.0 c.0 ((Equal-is (key_cmp a.0 b.0)).0 same));
  back = λ a b c _. refl;
  assoc = λ a b c. ap (λ places. (a.0, places)) (sym (append_assoc a.1 b.1 c.1));
}

-- one more stand is one more word behind the others
words-push : (all : List (Key × Place)) (list : List Word) (stand : Key × Place) → list ≡ grouped all → grouped (all ++ stand ∷ []) ≡ pushed one_key both_places list (at_one_place stand)
words-push all list stand same =
    ap (λ ws. gathered one_key both_places ws) (map-append at_one_place all (stand ∷ []))
    ∙ gathered-push one_key both_places words-JoinWell (map at_one_place all) (at_one_place stand)
    ∙ ap (λ ws. pushed one_key both_places ws (at_one_place stand)) (sym same)

-- a place of the last word is added to it
pub words-joined : (all : List (Key × Place)) (list : List Word) (n : ℕ) (d word : Word) (stand : Key × Place) → list ≡ grouped all → length list ≡ n + 1 → is_eq (key_cmp (get_or list n d).0 stand.0) ≡ true → word ≡ ((get_or list n d).0, (get_or list n d).1 ++ stand.1 ∷ []) → set list n word ≡ grouped (all ++ stand ∷ [])
words-joined all list n d word stand same last key is =
    ap (set list n) is ∙ sym (words-push all list stand same ∙ pushed-joined one_key both_places list n d (at_one_place stand) last key)

-- and another word begins
pub words-begun : (all : List (Key × Place)) (list : List Word) (stand : Key × Place) → list ≡ grouped all → ((n : ℕ) (d : Word) → length list ≡ n + 1 → is_eq (key_cmp (get_or list n d).0 stand.0) ≡ false) → list ++ at_one_place stand ∷ [] ≡ grouped (all ++ stand ∷ [])
words-begun all [] stand same other = sym (words-push all [] stand same)
words-begun all (word ∷ list) stand same other =
    sym (words-push all (word ∷ list) stand same ∙ pushed-apart one_key both_places (word ∷ list) (length list) word (at_one_place stand) (omega arith) (other (length list) word (omega arith)))
