pub mod Containers
pub mod Finding
pub mod Keeping
pub mod Lines
pub mod Loading
pub mod Spelling
