use Rattle.std.proofs.Common.{arith, Err, ◌≡◌, ◌∙◌, ◌+◌, ◌&&◌, ◌∷◌, [], false, length, nat_le, not, ap, refl, subst, sym}
use Rattle.std.proofs.lemmas.Result.{err_from_is_err_and}
use Rattle.ci_paths.specs.Numbering.{Numbering}
use Rattle.ci_journal.proofs.ChainLemmas.{Chain-run}
use Rattle.ci_journal.proofs.RunLemmas.{notices_within}
use Rattle.ci_journal.specs.Folds.{is_numbered, next_notice}
use Rattle.ci_journal.specs.Bytes.{capped}
use Rattle.ci_book.specs.Changes.{Adds, Puts, noted}
use Rattle.ci_holdings.specs.Core.{Core, terms_of}
use Rattle.ci_book.proofs.ChangesLemmas.{Adds-prepared, fits-one, journal_bytes-one}
use Rattle.ci_holdings.proofs.HaltsLemmas.{Halts-crowded, Halts-unnumbered}
use Rattle.ci_holdings.proofs.NoticesLemmas.{notices_below}
use Rattle.ci_holdings.proofs.NumbersLemmas.{crowded-parts, limit-numbered, paths-numbered, unfull}
use Rattle.ci_holdings.proofs.KeptLemmas.{IsHolding-stays, IsHolding-tracked, LacksRoom-stays}
use Rattle.ci_holdings.proofs.StepLemmas.{noted-kept}
use Rattle.ci_holdings.proofs.WithinLemmas.{IsWithin-small}
use Rattle.ci_holdings.proofs.holdings.Holdings.note.Goals as goal

pub returns-then-is_crowded-clause-step : goal.returns-then-is_crowded-clause-step
returns-then-is_crowded-clause-step g c =
    let parts = crowded-parts c.args.self.now.numbered c.args.path.now c.args.self.now.most c.if-is_crowded.ensures in
    record { ok = tt; refused = Halts-crowded c.args.self.now c.args.by c.args.path.now _ c.args.what parts.0 parts.1 }

pub overflow_add-seq : goal.overflow_add-seq
overflow_add-seq g c =
    let kept = c.self.invariant.1 in
    omega (arith, notices_within _ _ (Chain-run _ _ kept.run), kept.counts.noted, IsWithin-small _ _ _ kept.run kept.within, kept.small)

pub invariant_of-self : goal.invariant_of-self
invariant_of-self g c =
    (c.self.invariant.0, IsHolding-stays _ _ _ _ c.self.invariant.1 (LacksRoom-stays _ _ _ _ c.in_err-prepare.ensures.refused))

pub invariant_of-self-in_err-copied : goal.invariant_of-self-in_err-copied
invariant_of-self-in_err-copied g c =
    (c.self.invariant.0, IsHolding-stays _ _ _ _ c.self.invariant.1 c.in_ok-prepare.ensures.ok.stays)

pub invariant_of-self-in_err-number : goal.invariant_of-self-in_err-number
invariant_of-self-in_err-number g c =
    (ap (λ (n : Numbering). n.limit) c.in_err-number.ensures.err ∙ c.self.invariant.0, IsHolding-stays _ _ _ _ c.self.invariant.1 c.in_ok-prepare.ensures.ok.stays)

pub returns-in_err-number-clause-step : goal.returns-in_err-number-clause-step
returns-in_err-number-clause-step g c =
    let p = err_from_is_err_and c.from_residual-in_err-number.result c.from_residual-in_err-number.ensures.1 in
    let fits = subst (λ (core : Core). false ≡ (not (is_numbered core.numbered c.args.path.now) && nat_le core.most (length core.numbered))) (sym c.self.view_is) c.if-is_crowded.ensures in
    rw (p.1, p.2, ← c.self.view_is) (record {
      ok = tt;
      refused = Halts-unnumbered _ _ _ c.self.inside.places c.noted_bytes.result c.in_err-number.field-0.0
          (λ e. unfull c.self.inside.numbers c.args.path.now c.self.inside.most c.self.invariant.0 fits (c.in_err-number.ensures.full.0 (ap Err e)))
          c.self.invariant.1.small (c.noted_bytes.ensures ∙ ap capped (sym (journal_bytes-one (noted c.args.by c.args.path.now (c.self.inside.noted + 1) c.args.what)))) c.in_ok-prepare.ensures.ok (record { terms = refl; most = refl });
    })

pub note-requires : goal.note-requires
note-requires g c =
    notices_below _ c.self.invariant.1.starts _ c.self.invariant.1.run _ c.self.invariant.1.tracks.notices _ (omega (arith, c.self.invariant.1.counts.noted))

pub invariant_of-self-in_err-note : goal.invariant_of-self-in_err-note
invariant_of-self-in_err-note g c = (
  limit-numbered _ _ c.args.path.now _ c.in_ok-number.ensures.stays c.in_ok-number.ensures.new ∙ c.self.invariant.0,
  IsHolding-tracked _ _ _ _ (IsHolding-stays _ _ _ _ c.self.invariant.1 c.in_ok-prepare.ensures.ok.stays) c.in_err-note.ensures.err,
)

added : (g : _) (c : goal.After-add g) → Puts c.prepare.new.self c.add.new.self (noted c.args.by c.args.path.now (c.self.inside.noted + 1) c.args.what)
added g c = subst (λ path. Puts c.prepare.new.self c.add.new.self (noted c.args.by path (c.self.inside.noted + 1) c.args.what)) c.in_ok-copied.ensures c.add.ensures

pub invariant_of-self-2 : goal.invariant_of-self-2
invariant_of-self-2 g c = (
  limit-numbered _ _ c.args.path.now _ c.in_ok-number.ensures.stays c.in_ok-number.ensures.new ∙ c.self.invariant.0,
  noted-kept _ _ _ c.self.invariant.1 _ _ c.args.by c.args.path.now c.args.what _ c.requires _ c.noted_bytes.ensures c.in_ok-prepare.ensures.ok c.in_ok-note.ensures.ok (added g c),
)

pub returns-clause-step : goal.returns-clause-step
returns-clause-step g c =
    let number : c.self.inside.noted + 1 ≡ next_notice (terms_of c.self.inside.noise c.self.inside.retries) c.self.inside.book.events = omega (arith, c.self.invariant.1.counts.noted) in
    rw (← c.self.view_is) (record {
      ok = record {
        adds = subst (λ n. Adds c.self.inside.book c.add.new.self (noted c.args.by c.args.path.now n c.args.what ∷ [])) number
            (Adds-prepared _ _ _ _ c.in_ok-prepare.ensures.ok.stays (added g c).adds);
        within = fits-one _ _ _ _ _ _ c.self.invariant.1.small c.noted_bytes.ensures c.in_ok-prepare.ensures.ok (added g c).adds;
        told = record { terms = refl; most = refl };
        numbered = paths-numbered _ _ c.args.path.now _ c.in_ok-number.ensures.stays c.in_ok-number.ensures.new;
      };
      refused = tt;
    })
