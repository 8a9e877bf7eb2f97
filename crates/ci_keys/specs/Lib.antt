pub mod Entry
pub mod Key
pub mod Order
pub mod Places
pub mod Postings
