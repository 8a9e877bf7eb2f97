pub mod BeginningLemmas
pub mod CatalogLemmas
pub mod EndsLemmas
pub mod RefusalLemmas
