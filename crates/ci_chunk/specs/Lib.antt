pub mod Plain
pub mod Sizes
pub mod Statuses
pub mod Talk
