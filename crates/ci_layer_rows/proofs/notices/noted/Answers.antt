use Rattle.std.proofs.Common.{arith, ◌+◌, ◌<◌, All, ap, subst, sym}
use Rattle.std.proofs.lemmas.List.Elements.{All-push}
use Rattle.ci_change.specs.declared.notice.Notice.{Notice}
use Rattle.ci_change.specs.HandedIn.{HandedIn, notice_of}
use Rattle.ci_layer_rows.proofs.notices.noted.Goals as goal

pub returns : goal.returns
returns c =
    let P = λ (n : Notice). n.seq.0 < c.args.seq + 1 in
    let now = ap (λ (h : HandedIn). h.notices) c.in_ok-note.ensures.ok in
    subst (All P) (sym now)
    (All-push P c.args.list.notices (notice_of c.args.path.now (record { 0 = c.args.seq }) c.args.what) (λ k d below. omega (arith, c.requires k d below)) (omega arith))
