use Rattle.std.proofs.Common.{ℕ, List, arith, ◌≡◌, inl, drop, length, ap, subst, ◌∙◌, ◌+◌}
use Rattle.ci_io.specs.Lines.{HasFeedAt}
use Rattle.ci_io.specs.Reading.{Reading}
use Rattle.ci_io.proofs.LongLines.{PassesFeed-found}
use Rattle.ci_io.proofs.line_reader.LineReader.pass_some.Goals as goal

pub returns-in-Some-clause-ok : goal.returns-in-Some-clause-ok
returns-in-Some-clause-ok g c =
    let mid = c.gather.new.self in
    let gathered = c.in_ok-count.ensures in
    let feed = c.in-Some.feed in
    let shown : c.held.result.now ≡ mid.held = c.held.ensures.items ∙ ap (λ (r : Reading). r.held) c.self.view_is in
    let found = subst (λ (h : List ℕ). HasFeedAt h feed) shown c.in-Some.ensures in
    let held = c.release.ensures ∙ ap (λ (r : Reading). drop (feed + 1) r.held) c.self.view_is in
    let still = gathered.more c.if-count-eq0.false in
    inl (PassesFeed-found c.args.self.now mid _ c.args.most feed gathered.gathers c.requires.held found
    (omega (arith, gathered.count, gathered.bound, ap length c.requires.held)) held (ap (λ (r : Reading). r.left) c.self.view_is)
    (ap (λ (r : Reading). r.ended) c.self.view_is ∙ still.1))
