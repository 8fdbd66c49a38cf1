pub mod Messages
pub mod Sheets
pub mod Reading
