pub mod Limits
pub mod Flights
pub mod TransitLines
pub mod MessageFiles
pub mod TransitReply
