pub mod FleetLemmas
pub mod OneFleet
