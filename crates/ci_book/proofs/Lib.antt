pub mod ChangesLemmas
