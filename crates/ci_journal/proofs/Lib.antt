pub mod ChainLemmas
pub mod FoldsLemmas
pub mod LawLemmas
pub mod RequestLemmas
pub mod RunLemmas
pub mod TellsLemmas
