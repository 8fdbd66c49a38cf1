pub mod Table
pub mod Path
