pub mod Arguments
pub mod Commands
pub mod Halts
pub mod Reply
pub mod Run
