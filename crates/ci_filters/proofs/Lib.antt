pub mod HeardLemmas
pub mod TextLemmas
pub mod ReadingLemmas
pub mod ItemLemmas
pub mod OpeningLemmas
pub mod HeadLemmas
pub mod NumberLemmas
pub mod WalkLemmas
