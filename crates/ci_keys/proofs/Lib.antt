pub mod Beside
pub mod Keys
pub mod Search
pub mod OneForm
