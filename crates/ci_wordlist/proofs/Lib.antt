pub mod OrderLemmas
pub mod FilingLemmas
pub mod PostingsLemmas
pub mod BatchLemmas
