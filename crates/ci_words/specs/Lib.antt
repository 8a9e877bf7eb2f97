pub mod Front
pub mod Noise
pub mod Words
