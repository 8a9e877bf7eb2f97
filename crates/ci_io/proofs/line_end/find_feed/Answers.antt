use Rattle.std.proofs.Common.{◌==◌, drop, sym, ap, ◌∙◌}
use Rattle.std.specs.List.{position}
use Rattle.std.proofs.lemmas.List.{take_rest}
use Rattle.ci_io.proofs.Feeds.{HasFeedAt-behind, HasFeedAt-position, HasNoFeed-join, HasNoFeed-position}
use Rattle.ci_io.proofs.line_end.find_feed.Goals as goal

pub returns-in-Some : goal.returns-in-Some
returns-in-Some c =
    let bytes = c.args.bytes.now in
    let from = c.args.from in
    let found = sym (c.in-Some.ensures ∙ ap (position (λ b. b == 10)) (take_rest bytes from)) in
    HasFeedAt-behind bytes from c.in-Some.feed c.requires.searched (HasFeedAt-position (drop from bytes) c.in-Some.feed found)

pub returns-in-None : goal.returns-in-None
returns-in-None c =
    let bytes = c.args.bytes.now in
    let from = c.args.from in
    let none = sym (c.in-None.ensures ∙ ap (position (λ b. b == 10)) (take_rest bytes from)) in
    HasNoFeed-join bytes from c.requires.searched (HasNoFeed-position (drop from bytes) none)
