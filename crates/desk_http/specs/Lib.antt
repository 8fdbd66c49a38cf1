pub mod Received
pub mod Served
pub mod Steps
