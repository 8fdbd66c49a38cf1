pub mod Spelling
pub mod Rounding
pub mod PercentMac
pub mod Line
pub mod Polyline
