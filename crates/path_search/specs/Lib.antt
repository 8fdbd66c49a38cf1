pub mod Keys
pub mod Looks
pub mod Promising
pub mod Search
pub mod Worlds
