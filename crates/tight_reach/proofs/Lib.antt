pub mod Crossing
pub mod OrdinaryLemmas
mod ReachedLemmas
