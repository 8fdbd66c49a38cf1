pub mod Books
pub mod Hearings
pub mod Talks
pub mod Stepping
pub mod ServedLemmas
