pub mod Narrowed
pub mod Conflicts
pub mod Passing
pub mod Remainders
