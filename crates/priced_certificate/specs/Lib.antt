pub mod PricedText
pub mod Refusals
pub mod Reading
