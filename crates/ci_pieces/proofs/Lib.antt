pub mod FrontLemmas
pub mod PieceLemmas
pub mod LaidLemmas
