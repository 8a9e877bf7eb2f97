pub mod EndLemmas
pub mod Rows
pub mod SignLemmas
