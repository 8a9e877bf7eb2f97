use Rattle.std.proofs.Common.{ℕ, ◌++◌, get_or, take, sym, ap, ◌∙◌, arith}
use Rattle.std.specs.List.{filter_map, flat_map}
use Rattle.std.proofs.lemmas.List.{get_or_default}
use Rattle.ci_entry.specs.Runs.{property_runs}
use Rattle.ci_entry.specs.Words.{kept_word, placed_words, worded}
use Rattle.ci_entry.proofs.ListLemmas.{flat_map-more}
use Rattle.ci_entry.proofs.SizeLemmas.{few_runs, short_runs}
use Rattle.ci_entry.proofs.word.stands_of.Goals as goal

pub add_runs-requires-clause-few : goal.add_runs-requires-clause-few
add_runs-requires-clause-few c =
    let n = get_or worded c.loop-number.number-index 0 in
    rw (c.as_slice.ensures.value, c.in_ok-runs.ensures) (omega (arith, few_runs n c.args.pieces.now, c.requires.count))

pub add_runs-requires-clause-short : goal.add_runs-requires-clause-short
add_runs-requires-clause-short c =
    let n = get_or worded c.loop-number.number-index 0 in
    rw (c.as_slice.ensures.value, c.in_ok-runs.ensures) (omega (arith, short_runs n c.args.pieces.now, c.requires.bytes))

pub loop-number-preserved : goal.loop-number-preserved
loop-number-preserved c =
    let at = c.loop-number.number-index in
    let n = get_or worded at 0 in
    let within = c.loop-number-test.true in
    let kept = kept_word c.args.noise.now in
    let runs = c.as_slice.ensures.value ∙ c.in_ok-runs.ensures in
    let all = λ (property : ℕ). filter_map (kept property) (placed_words (property_runs property c.args.pieces.now)) in
    let more = flat_map-more all worded at n within (get_or_default worded at 0 n within) in
    record {
      made = c.in_ok-add_runs.ensures.ok
          ∙ ap (λ l. l ++ filter_map (kept n) (placed_words c.as_slice.result.now)) c.loop-number.invariant.made
          ∙ ap (λ rs. flat_map all (take at worded) ++ filter_map (kept n) (placed_words rs)) runs ∙ sym more;
      keys = c.in_ok-add_runs.ensures.keys;
    }
