pub mod Cuts
pub mod ElementLaws
pub mod LineLaws
mod NumberLaws
pub mod PartLaws
pub mod WrittenLaws
