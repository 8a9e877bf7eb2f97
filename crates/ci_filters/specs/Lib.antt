pub mod Contents
pub mod Formats
pub mod Items
pub mod Reading
pub mod Talking
pub mod Texts
pub mod Head
