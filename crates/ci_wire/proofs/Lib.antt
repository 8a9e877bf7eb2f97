pub mod NumbersLemmas
pub mod BodyLemmas
pub mod FrontLemmas
pub mod StreamLemmas
pub mod LawLemmas
pub mod LengthLemmas
