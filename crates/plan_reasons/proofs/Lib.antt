pub mod Pieces
pub mod DecisionLemmas
pub mod LimitLemmas
pub mod LooserLemmas
