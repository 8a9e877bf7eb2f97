pub mod VarintLemmas
