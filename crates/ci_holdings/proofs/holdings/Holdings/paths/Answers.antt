use Rattle.std.proofs.Common.{◌∙◌, ℕ, List, map, ap, subst}
use Rattle.std.proofs.lemmas.Result.{IfOk-weaker}
use Rattle.ci_keys.specs.Entry.{EntryLists}
use Rattle.ci_journal.specs.Served.{live_map}
use Rattle.ci_documents.specs.Documents.{StandFor}
use Rattle.ci_documents.proofs.DocumentsLemmas.{present-entries}
use Rattle.ci_holdings.specs.Core.{Core}
use Rattle.ci_holdings.proofs.holdings.Holdings.paths.Goals as goal

pub returns : goal.returns
returns g c =
    let stands = subst (λ (core : Core). StandFor (live_map core.terms core.sheet.events) c.self.inside.documents.entries) c.self.view_is c.self.invariant.1.stands in
    IfOk-weaker c.paths_of.result _ _
    (λ paths e. e ∙ ap (map (λ (d : List ℕ × EntryLists). d.0)) (present-entries (live_map c.args.self.now.terms c.args.self.now.sheet.events) c.self.inside.documents.entries c.paths_of.ensures.order stands))
    c.paths_of.ensures.paths
