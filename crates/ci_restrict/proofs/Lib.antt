pub mod NearLemmas
pub mod WalkLemmas
pub mod WordLemmas
