pub mod NumberLemmas
pub mod ListLemmas
pub mod ClassLemmas
pub mod ConflictLemmas
pub mod PassLemmas
pub mod ChoiceLemmas
pub mod NarrowedLemmas
pub mod RemainderLemmas
