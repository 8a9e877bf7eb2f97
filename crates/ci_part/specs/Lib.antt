pub mod Covering
pub mod Keys
pub mod Part
pub mod Range
pub mod View
