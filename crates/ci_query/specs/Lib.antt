pub mod Opens
pub mod Reading
pub mod Repetition
pub mod Words
