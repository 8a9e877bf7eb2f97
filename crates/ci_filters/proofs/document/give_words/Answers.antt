use Rattle.std.proofs.Common.{◌≡◌, refl, sym, ◌∙◌}
use Rattle.ci_filters.specs.Reading.{piece_status}
use Rattle.ci_filters.proofs.ReadingLemmas.{words_said}
use Rattle.ci_filters.proofs.document.give_words.Goals as goal
use Rattle.ci_filters.proofs.document.give_words.Goals.{then-is_empty-2, else-is_empty-2}

pub returns-clause-said : goal.returns-clause-said
returns-clause-said c =
    let status : c.if-is_empty-2.status ≡ piece_status c.take.new.self =
    elim c.if-is_empty-2.branch [
      | then-is_empty-2 w ↦ w.status-is ∙ rw (sym c.is_empty-2.ensures ∙ w.if-is_empty-2.true) refl
      | else-is_empty-2 w ↦ w.status-is ∙ rw (sym c.is_empty-2.ensures ∙ w.if-is_empty-2.false) refl
    ] in
    words_said _ c.piece_bytes.result _ _ _ _ (sym c.is_empty.ensures ∙ c.if-is_empty.false) c.piece_bytes.ensures
    c.in_ok-piece.ensures.piece c.in_ok-piece.ensures.left status
