use Rattle.std.proofs.Common.{◌≡◌, ◌∙◌, length, ap}
use Rattle.std.proofs.lemmas.List.{length-map}
use Rattle.std.proofs.lemmas.List.Sorted.{length_permutation}
use Rattle.ci_change.specs.declared.notice.Notice.{Notice}
use Rattle.ci_change.specs.Pending.{paths_of}
use Rattle.ci_journal.specs.declared.reply.Reply.TheVariants.{Filtered}
use Rattle.ci_journal.specs.Pending.{unfiltered}
use Rattle.ci_server.proofs.serve_filter.filtered.Goals as goal

pub returns : goal.returns
returns g c =
    let aside = unfiltered c.args.catalog.now.terms c.args.catalog.now.sheet.events in
    let paths = c.in_ok-paths.paths in
    let listed : length c.items.result.now ≡ length paths = ap length c.items.ensures in
    ap Filtered (listed ∙ length_permutation (paths_of aside) paths c.in_ok-paths.ensures.paths.same ∙ length-map aside (λ (n : Notice). n.path))
