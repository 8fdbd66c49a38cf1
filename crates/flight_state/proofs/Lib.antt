pub mod ChangeLemmas
pub mod KeyLemmas
pub mod LimitLemmas
