pub mod TreeReading
pub mod GoodTrees
pub mod FirstReason
pub mod Claims
pub mod Steps
