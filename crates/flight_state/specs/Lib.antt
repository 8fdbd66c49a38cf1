pub mod Spellings
pub mod Legs
pub mod Effective
