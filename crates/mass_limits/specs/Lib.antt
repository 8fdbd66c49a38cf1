pub mod Masses
pub mod Underload
pub mod MassRule
