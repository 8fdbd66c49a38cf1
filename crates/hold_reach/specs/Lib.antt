pub mod Rules
pub mod Reach
pub mod Choices
pub mod Extents
