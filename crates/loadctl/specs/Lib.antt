pub mod Desk
pub mod Serve
pub mod Needs
pub mod Asked
pub mod Execute
pub mod Stores
