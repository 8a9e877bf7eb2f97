pub mod Filing
pub mod WordList
