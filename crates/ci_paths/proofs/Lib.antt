pub mod Entries
pub mod Indexed
pub mod PlacesLemmas
pub mod Prefixes
pub mod SortedLemmas
