pub mod ApartLemmas
pub mod LatestLemmas
pub mod OutLemmas
pub mod SameLemmas
