pub mod Faults
pub mod Runs
pub mod Servable
pub mod DoorRuns
