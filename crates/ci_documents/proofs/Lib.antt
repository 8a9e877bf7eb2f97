pub mod DocumentsLemmas
