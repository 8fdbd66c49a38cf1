pub mod PairLemmas
pub mod SumLemmas
pub mod AroundLemmas
pub mod LawfulAround
pub mod PlaceLemmas
pub mod JoinedLemmas
pub mod NewTaskLemmas
