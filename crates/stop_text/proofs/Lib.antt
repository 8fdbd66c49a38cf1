pub mod TaskEnds
pub mod TaskBlocks
pub mod LastTask
pub mod FileLines
pub mod LoadLemmas
pub mod LawLemmas
pub mod WrittenFile
