pub mod SignedSums
pub mod PriceLaw
pub mod NarrowingLemmas
pub mod TreeLaw
pub mod BestPath
