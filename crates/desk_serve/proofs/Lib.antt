pub mod Rounds
pub mod Pairs
pub mod Running
pub mod Collecting
pub mod Unkept
pub mod Closing
pub mod Sending
