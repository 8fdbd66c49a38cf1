pub mod Arrangements
pub mod LetterLemmas
pub mod ListLemmas
pub mod PairLemmas
pub mod SignedSums
