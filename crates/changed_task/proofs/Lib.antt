pub mod PartLemmas
pub mod LawfulHolds
pub mod LawfulTasks
pub mod LawLemmas
