pub mod StatusLemmas
pub mod LineLemmas
pub mod HeadLemmas
pub mod InputLemmas
pub mod RequestLemmas
pub mod WireLemmas
pub mod RequestLaws
pub mod ConnectionLaws
