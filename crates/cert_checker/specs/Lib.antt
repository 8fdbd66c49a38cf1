pub mod Claims
pub mod Certified
pub mod FirstReason
pub mod Evidence
pub mod Steps
