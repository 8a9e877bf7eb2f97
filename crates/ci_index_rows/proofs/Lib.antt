pub mod PartsLemmas
pub mod RowsLemmas
