pub mod SpellingLemmas
mod Reading
pub mod LineLemmas
pub mod ChainLemmas
pub mod PolylineLemmas
