pub mod Frees
pub mod Marking
pub mod Counting
pub mod LeastFree
pub mod Lists
pub mod Linking
pub mod Letting
pub mod Once
