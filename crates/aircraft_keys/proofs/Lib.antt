pub mod SkipLemmas
pub mod KeyLemmas
