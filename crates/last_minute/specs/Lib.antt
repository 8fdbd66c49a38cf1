pub mod Planned
pub mod LateChange
pub mod Sheets
