pub mod Placing
pub mod Limits
pub mod Arrangement
pub mod Tables
pub mod Levels
pub mod Kept
pub mod Ahead
pub mod Outlook
