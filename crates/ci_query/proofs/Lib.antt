pub mod ComesLemmas
pub mod EndLemmas
pub mod ParseLemmas
pub mod PhraseLemmas
pub mod RepeatLemmas
pub mod WellFormedTrees
