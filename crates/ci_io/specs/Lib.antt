pub mod Adapters
pub mod Causes
pub mod Limits
pub mod Lines
pub mod Memory
pub mod Putting
pub mod ReadLine
pub mod Reading
