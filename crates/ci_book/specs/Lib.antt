pub mod Book
pub mod Changes
pub mod Faults
pub mod Refusal
pub mod Sheet
pub mod Tried
