pub mod HearingLemmas
pub mod QuestionLemmas
pub mod RoundLemmas
pub mod ServingLemmas
