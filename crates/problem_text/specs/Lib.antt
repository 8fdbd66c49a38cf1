pub mod TaskText
pub mod Refusals
pub mod PositionNumbers
pub mod WordRuns
pub mod Grammar
pub mod Reading
pub mod Parts
