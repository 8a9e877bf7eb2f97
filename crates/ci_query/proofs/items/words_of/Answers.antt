use Rattle.std.proofs.Common.{rules, ◌≡◌, ℕ, suc, ◌+◌, ◌<◌, ◌≤◌, List, [], ◌∷◌, ◌++◌, drop, length, take, get_or, refl, sym, ap, ◌∙◌, append-nil, arith, length-append}
use Rattle.std.proofs.lemmas.Bool.{le-ltb}
use Rattle.std.proofs.lemmas.Grind.{flat_map-append}
use Rattle.std.proofs.Math.Seq.{drop-cons, take-suc}
use Rattle.ci_pieces.specs.Cut.{Cut}
use Rattle.ci_dialect.specs.Words.{item_words, words_of}
use Rattle.ci_dialect.specs.Step.{too_long}
use Rattle.ci_query.proofs.items.words_of.Goals as goal

-- the next item decides whether there are too many words
too_long-few : (read i n : ℕ) (items : List Cut) (item : Cut) → i < length items → item ≡ get_or items i item → n ≡ length (item_words item) → read + n ≤ 1024 → too_long read (drop i items) ≡ too_long (read + n) (drop (suc i) items)
too_long-few read i n items item within is count few =
    ap (too_long read) (drop-cons items i item within ∙ ap (λ x. x ∷ drop (suc i) items) (sym is))
    ∙ rw (← count) (rw (le-ltb 1024 (read + n) few) refl)

words_of-next : (i : ℕ) (items : List Cut) (item : Cut) → i < length items → item ≡ get_or items i item → words_of (take (i + 1) items) ≡ words_of (take i items) ++ item_words item
words_of-next i items item within is =
    let one : i + 1 ≡ suc i = omega arith in
    ap (λ n. words_of (take n items)) one
    ∙ ap words_of (take-suc items i item within ∙ ap (λ x. take i items ++ x ∷ []) (sym is))
    ∙ flat_map-append item_words (take i items) (item ∷ [])
    ∙ ap (λ ws. words_of (take i items) ++ ws) (append-nil (item_words item))

-- an item more was read
read-next : (before i : ℕ) (items : List Cut) (item : Cut) (old more new : List (List ℕ)) → i < length items → item ≡ get_or items i item
    → old ≡ words_of (take i items) → too_long before items ≡ too_long (before + length old) (drop i items) → more ≡ item_words item → new ≡ old ++ more → before + length old + length more ≤ 1024
    → (new ≡ words_of (take (i + 1) items)) × (too_long before items ≡ too_long (before + length new) (drop (i + 1) items)) × (before + length new ≤ 1024)
read-next before i items item old more new within is made few words grown bound =
    let one : suc i ≡ i + 1 = omega arith in
    let size : length new ≡ length old + length more = ap length grown ∙ length-append old more in
    let sum : before + length old + length more ≡ before + length new = omega arith in (
      grown ∙ ap (λ ws. ws ++ more) made ∙ ap (λ ws. words_of (take i items) ++ ws) words ∙ sym (words_of-next i items item within is),
      few ∙ too_long-few (before + length old) i (length more) items item within is (ap length words) bound ∙ ap (λ n. too_long n (drop (suc i) items)) sum ∙ ap (λ n. too_long (before + length new) (drop n items)) one,
      omega arith,
    )

pub loop-item-preserved : goal.loop-item-preserved
loop-item-preserved c =
    let old = c.loop-item.words.items in
    let more = c.in_ok-more.more.items in
    let grown : c.append.new.self.items ≡ old ++ more = search rules in
    let bound : c.args.read + length old + length more ≤ 1024 = omega arith in
    let next = read-next c.args.read c.loop-item.item-index c.args.items.now c.item-item.result old more _ (omega arith) c.item-item.is c.loop-item.invariant.made c.loop-item.invariant.few c.in_ok-more.ensures grown bound in
    record { made = next.0; few = next.1; bound = next.2 }
