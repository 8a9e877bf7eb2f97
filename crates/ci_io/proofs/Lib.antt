pub mod Feeds
pub mod FirstLines
pub mod Held
pub mod LongLines
pub mod TakenLines
