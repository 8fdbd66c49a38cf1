pub mod Texts
pub mod KeyTexts
