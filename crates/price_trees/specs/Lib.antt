pub mod Prices
pub mod Narrowing
pub mod Trees
