pub mod Bytes
pub mod Cut
pub mod Finds
pub mod Front
pub mod Laid
pub mod Pieces
