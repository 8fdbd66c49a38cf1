pub mod Staying
pub mod Joined
pub mod NewTask
pub mod TransitFaults
