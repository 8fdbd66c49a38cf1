pub mod Good
pub mod FirstReason
pub mod Steps
