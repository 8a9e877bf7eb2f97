pub mod Catalog
pub mod Erasing
pub mod Fixed
