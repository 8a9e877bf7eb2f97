pub mod CountLemmas
pub mod FrontLemmas
pub mod LineLemmas
pub mod NoiseLemmas
pub mod StandardLemmas
pub mod WordLemmas
