-- The documents that have a word.
use Rattle.std.specs.Prelude.{List, All}
use Rattle.std.specs.Ordering.{nat_cmp}
use Rattle.ci_base.specs.declared.numbers.DocNo.{DocNo}
use Rattle.ci_base.specs.declared.numbers.Place.{Place}
use Rattle.ci_keys.specs.Order.{Ascends}
use Rattle.ci_keys.specs.Places.{IsPlaces}

-- documents in the order of their numbers, each with the places of the word in it
pub record IsPostings (postings : List (DocNo × List Place)) : Type 0 where
  pub places : All (λ posting. IsPlaces posting.1) postings
  pub ascend : Ascends (λ posting. posting.0.0) nat_cmp postings
