pub mod FrontLemmas
pub mod CodeLemmas
pub mod RisesLemmas
