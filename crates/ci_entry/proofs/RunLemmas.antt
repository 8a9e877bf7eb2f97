-- One more passage.
use Rattle.std.proofs.Common.{◌≡◌, ℕ, ◌+◌, ◌<◌, true, false, List, [], ◌∷◌, ◌++◌, length, get_or, set, refl, sym, ap, ◌∙◌, arith, append_assoc}
use Rattle.ci_entry.specs.Runs.{Passage, goes_on, joined, runs}
use Rattle.ci_entry.proofs.GatherLemmas.{JoinsWell, pushed, pushed-joined, pushed-apart, gathered-push}

passages-JoinWell : JoinsWell (λ _ other. goes_on other.before) joined
passages-JoinWell = record {
  front = λ a b c _. refl;
  back = λ a b c _. refl;
  assoc = λ a b c. ap (λ text. record { before = a.before; text = text }) (sym (append_assoc a.text b.text c.text));
}

-- one more passage is one more behind the runs
runs-push : (all list : List Passage) (passage : Passage) → list ≡ runs all → runs (all ++ passage ∷ []) ≡ pushed (λ _ other. goes_on other.before) joined list passage
runs-push all list passage same =
    gathered-push (λ _ other. goes_on other.before) joined passages-JoinWell all passage
    ∙ ap (λ ws. pushed (λ _ other. goes_on other.before) joined ws passage) (sym same)

-- a passage that goes on is joined to the last run
pub runs-joined : (all list : List Passage) (n : ℕ) (d passage run : Passage) → list ≡ runs all → length list ≡ n + 1 → goes_on passage.before ≡ true → run ≡ joined (get_or list n d) passage → set list n run ≡ runs (all ++ passage ∷ [])
runs-joined all list n d passage run same last goes is =
    ap (set list n) is ∙ sym (runs-push all list passage same ∙ pushed-joined (λ _ other. goes_on other.before) joined list n d passage last goes)

-- and another begins a run
pub runs-begun : (all list : List Passage) (passage : Passage) → list ≡ runs all → (0 < length list → goes_on passage.before ≡ false) → list ++ passage ∷ [] ≡ runs (all ++ passage ∷ [])
runs-begun all [] passage same stops = sym (runs-push all [] passage same)
runs-begun all (run ∷ list) passage same stops =
    sym (runs-push all (run ∷ list) passage same ∙ pushed-apart (λ _ other. goes_on other.before) joined (run ∷ list) (length list) passage passage (omega arith) (stops (omega arith)))
