use Rattle.std.proofs.Common.{◌≡◌, true, Err, refl, sym, ap, rules, ◌∙◌}
use Rattle.ci_chunk.specs.Statuses.{access}
use Rattle.ci_filters.proofs.OpeningLemmas.{begin_fails, begin_reads}
use Rattle.ci_filters.proofs.format_filter.FormatFilter.begin.Goals as goal

pub returns-in-Err-Failed : goal.returns-in-Err-Failed
returns-in-Err-Failed g c =
    let taken : c.accepts.result ≡ true = search rules in
    let read = c.in-Err-Failed.ensures in
    (access, refl, begin_fails g.M.Format.format _ _ _ _ _ _ _ c.self.view_is (sym c.accepts.ensures ∙ taken) (read.failed (ap (λ e. Err e) c.in-Err-Failed.field-0-is)) read.holds)

pub returns-in_ok-self-inside-in-Ok : goal.returns-in_ok-self-inside-in-Ok
returns-in_ok-self-inside-in-Ok g c =
    let taken : c.accepts.result ≡ true = search rules in
    let read = c.in-Ok.ensures in
    let status = c.opening_status.ensures in (
      _,
      refl,
      begin_reads g.M.Format.format _ _ c.as_str.result.now c.in-Ok.bytes _ _ _ _ _ _ _ c.self.view_is (sym c.accepts.ensures ∙ taken)
          c.as_str.ensures.text read.bound read.bytes read.holds read.kept c.in_ok-self-inside-in-Ok.ensures status.some status.none,
    )
