pub mod RuleLemmas
pub mod ChoiceLemmas
pub mod ViableLemmas
pub mod LoadLemmas
pub mod SpanLemmas
pub mod ReachLemmas
pub mod CommonNumber
