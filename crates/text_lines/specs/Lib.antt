pub mod Cuts
pub mod Lines
pub mod Names
pub mod SpelledWords
pub mod WordRuns
pub mod Sections
pub mod Grammar
pub mod Stated
