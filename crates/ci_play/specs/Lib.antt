pub mod Apart
pub mod Latest
pub mod Played
pub mod Steps
pub mod Told
