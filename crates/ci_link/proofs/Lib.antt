pub mod BoundsLemmas
pub mod PiecesLemmas
pub mod RunsOutLemmas
pub mod DocumentLemmas
pub mod LineLemmas
pub mod TalkLemmas
