use Rattle.std.proofs.Common.{◌≡◌, ◌-◌, None}
use Rattle.ci_front.proofs.CodeLemmas.{with_front}
use Rattle.ci_segment.specs.Chain.{chain_at}
use Rattle.ci_segment.specs.Postings.{after_place}
use Rattle.ci_segment.specs.Reading.{place_at}
use Rattle.ci_segment.proofs.places.read_list.Given as goal

abbrev pub invariant-loop : goal.invariant-loop
invariant-loop l = with_front l.list.items (chain_at place_at after_place l.before (l.count - l.counter) l.rest) ≡ chain_at place_at after_place None l.count l.bytes
