use Rattle.std.proofs.Common.{refl, ap, ◌∙◌, drop, take}
use Rattle.ci_pieces.proofs.FrontLemmas.{behind-run, run-more}
use Rattle.ci_pieces.proofs.front.bare.Goals as goal

pub returns : goal.returns
returns c =
    let text = c.args.text.now in
    record {
      kind = refl;
      says = run-more text _ c.requires.some c.requires.begins (c.split_at.ensures.front ∙ ap (λ n. take n text) c.len_to_end.ensures.first);
      rest = behind-run text _ c.requires.some c.requires.begins (c.split_at.ensures.back ∙ ap (λ n. drop n text) c.len_to_end.ensures.first);
    }
