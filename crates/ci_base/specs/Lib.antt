pub mod Path
pub mod Varint
