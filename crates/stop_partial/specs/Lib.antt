pub mod Sectors
pub mod Next
