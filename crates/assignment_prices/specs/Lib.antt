pub mod TightReach
pub mod Priced
pub mod Steps
