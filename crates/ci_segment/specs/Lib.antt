pub mod Chain
pub mod Finding
pub mod Postings
pub mod Reading
pub mod Segment
pub mod SegmentReading
pub mod Tail
pub mod Writing
