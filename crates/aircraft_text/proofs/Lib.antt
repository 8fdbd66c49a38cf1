pub mod WordLemmas
pub mod CentreLemmas
pub mod LineLemmas
