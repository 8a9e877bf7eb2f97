use Rattle.std.proofs.Common.{◌≡◌, ◌+◌, ◌++◌, ◌≤◌, length, take, sym, ap, ◌∙◌, arith, append_assoc}
use Rattle.std.specs.List.{enumerate_from, filter_map}
use Rattle.std.proofs.lemmas.List.{length-take-le}
use Rattle.std.proofs.lemmas.List.Elements.{filter_map-append}
use Rattle.ci_words.specs.Words.{words}
use Rattle.ci_entry.specs.Runs.{Passage}
use Rattle.ci_entry.specs.Words.{gap, kept_word, placed_words}
use Rattle.ci_entry.proofs.ListLemmas.{sum_by-more}
use Rattle.ci_entry.proofs.PlaceLemmas.{begins, begins-first, begins-later, ends-more, gap-le, placed_words-more}
use Rattle.ci_entry.proofs.word.add_runs.Goals as goal
use Rattle.ci_entry.proofs.word.add_runs.Goals.{then-index-gt0, else-index-gt0}

pub loop-index-preserved : goal.loop-index-preserved
loop-index-preserved c =
    let kept = kept_word c.args.noise.now c.args.property.0 in
    let runs = c.args.runs.now in
    let run = c.index-runs-index.result in
    let front = take c.loop-index.index runs in
    let begin = c.if-index-gt0.end in
    let text = c.text.result.now in
    let within = c.loop-index-test.true in
    let size : length front ≡ c.loop-index.index = length-take-le c.loop-index.index runs (omega arith) in
    let here : begin ≡ begins front run = elim c.if-index-gt0.branch [
      | then-index-gt0 w ↦
          let free = w.gap.ensures ∙ ap gap w.before-then-index-gt0.ensures in
          omega (arith, w.end-is, c.loop-index.invariant.end, free, begins-later front run (omega arith))
      | else-index-gt0 w ↦ w.end-is ∙ c.loop-index.invariant.end ∙ sym (begins-first front run (omega arith))
    ] in
    let near : begin ≤ c.loop-index.end + 1024 = elim c.if-index-gt0.branch [
      | then-index-gt0 w ↦ omega (arith, w.end-is, w.gap.ensures, gap-le w.before-then-index-gt0.result)
      | else-index-gt0 w ↦ omega (arith, w.end-is)
    ] in
    let placed = placed_words-more runs c.loop-index.index run within c.index-runs-index.is begin text here c.text.ensures in
    let end = ends-more runs c.loop-index.index run within c.index-runs-index.is begin text here c.text.ensures in
    record {
      made = c.in_ok-end.ensures.ok
          ∙ ap (λ l. l ++ filter_map kept (enumerate_from begin (words text))) c.loop-index.invariant.made
          ∙ append_assoc c.args.found.now.items (filter_map kept (placed_words front)) (filter_map kept (enumerate_from begin (words text)))
          ∙ ap (λ l. c.args.found.now.items ++ l) (sym (filter_map-append kept (placed_words front) (enumerate_from begin (words text))))
          ∙ ap (λ ps. c.args.found.now.items ++ filter_map kept ps) placed;
      end = ap (λ n. begin + n) c.in_ok-end.ensures.count ∙ end;
      bound = omega (arith, near, c.loop-index.invariant.bound, c.in_ok-end.ensures.few, ap length c.text.ensures, sum_by-more (λ (r : Passage). length r.text) runs c.loop-index.index run within c.index-runs-index.is);
      keys = c.in_ok-end.ensures.keys;
    }
