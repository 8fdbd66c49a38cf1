pub mod Links
pub mod Doors
pub mod Bays
pub mod Service
