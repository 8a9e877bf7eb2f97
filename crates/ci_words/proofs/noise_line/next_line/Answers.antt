use Rattle.std.proofs.Common.{◌+◌, length, rules, arith}
use Rattle.std.proofs.lemmas.Bool.Decides.{nat_tests}
use Rattle.std.proofs.lemmas.Iterator.{YieldsList-from_slice}
use Rattle.std.proofs.lemmas.Iterator.Search.{position_from_yields_List}
use Rattle.std.specs.List.{position_or_len}
use Rattle.ci_words.proofs.LineLemmas.{is_feed, found_at, found_none, lines-feed, lines-rest, rest_of}
use Rattle.ci_words.proofs.noise_line.next_line.Goals as goal

pub returns-in-Some-clause-line : goal.returns-in-Some-clause-line
returns-in-Some-clause-line c =
    let bytes = c.args.bytes.now in
    let answer = position_from_yields_List is_feed _ _ c.position.result c.position.ensures.ran (YieldsList-from_slice bytes c.iter.ensures.rest) (λ x b q k. search rules) in
    let found = found_at (position_or_len is_feed bytes) (length bytes) c.position.result c.in-Some.at answer c.in-Some.is in
    rw (c.without_return.ensures, rest_of bytes (c.in-Some.at + 1)) (lines-feed bytes c.in-Some.at found.0 found.1)

pub returns-in-None-2-clause-line : goal.returns-in-None-2-clause-line
returns-in-None-2-clause-line c =
    let bytes = c.args.bytes.now in
    let answer = position_from_yields_List is_feed _ _ c.position.result c.position.ensures.ran (YieldsList-from_slice bytes c.iter.ensures.rest) (λ x b q k. search rules) in
    lines-rest bytes (found_none (position_or_len is_feed bytes) (length bytes) c.position.result answer c.in-None.is) (grind (arith, nat_tests))
