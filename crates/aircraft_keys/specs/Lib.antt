pub mod Texts
pub mod Grammar
pub mod Skipped
pub mod KeyNames
