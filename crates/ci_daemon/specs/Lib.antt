pub mod Exit
pub mod Hearing
pub mod Questions
pub mod Replying
pub mod Rounds
pub mod Serving
