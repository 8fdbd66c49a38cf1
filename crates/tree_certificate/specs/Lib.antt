pub mod Listed
pub mod TreeText
pub mod Refusals
pub mod Reading
