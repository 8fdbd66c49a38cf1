pub mod Listing
pub mod Pricing
pub mod Tariffs
pub mod Ready
