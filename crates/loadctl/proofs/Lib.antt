pub mod DeskLemmas
pub mod ServeLemmas
pub mod AskedLemmas
pub mod NeedLemmas
pub mod ExecuteLemmas
