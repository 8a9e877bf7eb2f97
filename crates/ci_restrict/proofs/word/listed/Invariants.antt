use Rattle.std.proofs.Common.{◌≡◌, take, true}
use Rattle.ci_dialect.specs.Places.{places_of}
use Rattle.ci_restrict.specs.Walk.{numbers}
use Rattle.ci_restrict.proofs.word.listed.Given as goal

abbrev pub invariant-loop-found : goal.invariant-loop-found
invariant-loop-found l = numbers l.places.items ≡ places_of (take l.found-index l.words) l.property l.word true
