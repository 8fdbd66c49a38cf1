pub mod Elements
pub mod Items
pub mod Lines
pub mod Parts
pub mod Text
