pub mod Words
pub mod RowText
pub mod Spelled
pub mod Loading
pub mod Refusals
pub mod Reading
