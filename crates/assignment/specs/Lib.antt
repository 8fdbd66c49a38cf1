pub mod Ways
pub mod Prices
pub mod Costs
pub mod Tables
pub mod Standings
pub mod Trees
