pub mod Candidates
pub mod Ends
