pub mod Filtering
pub mod Links
pub mod Stops
pub mod Talks
pub mod Way
pub mod Working
