pub mod Spellings
pub mod Accepting
pub mod Twins
pub mod Limits
pub mod Repeats
pub mod Names
