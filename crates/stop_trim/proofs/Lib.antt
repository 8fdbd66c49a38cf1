pub mod TaskLemmas
pub mod LoadLemmas
pub mod LawLemmas
