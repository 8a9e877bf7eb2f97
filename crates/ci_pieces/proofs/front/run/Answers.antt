use Rattle.std.proofs.Common.{ap, ◌∙◌, drop, take}
use Rattle.ci_pieces.specs.Front.{run_kind}
use Rattle.ci_pieces.proofs.FrontLemmas.{behind-run, run-more}
use Rattle.ci_pieces.proofs.front.run.Goals as goal

pub returns : goal.returns
returns c =
    let text = c.args.text.now in
    let says = run-more text _ c.requires.some c.requires.begins (c.split_at.ensures.front ∙ ap (λ n. take n text) c.len_to_end.ensures.first) in
    record {
      kind = c.run_kind.ensures ∙ ap run_kind says;
      says = says;
      rest = behind-run text _ c.requires.some c.requires.begins (c.split_at.ensures.back ∙ ap (λ n. drop n text) c.len_to_end.ensures.first);
    }
