pub mod Entry
pub mod Gather
pub mod Runs
pub mod Values
pub mod Words
