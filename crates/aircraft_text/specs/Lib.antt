pub mod Words
pub mod Centre
pub mod AircraftText
pub mod Notes
