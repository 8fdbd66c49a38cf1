pub mod Stops
pub mod StopFaults
pub mod StopPaths
