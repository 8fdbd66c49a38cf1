pub mod Sectors
pub mod Refusals
