pub mod ReadLemmas
pub mod RowLemmas
pub mod WriteLemmas
pub mod PublicLemmas
