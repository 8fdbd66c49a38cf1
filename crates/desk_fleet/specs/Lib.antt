pub mod Fleet
pub mod FleetText
