pub mod StopFile
pub mod StopRefusals
pub mod Reading
pub mod Writing
