pub mod Compare
pub mod Pattern
pub mod Stops
pub mod Table
