pub mod Evidence
pub mod Good
pub mod Starts
pub mod CertificateText
pub mod Refusals
pub mod Reading
