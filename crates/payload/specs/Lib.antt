pub mod Load
pub mod PayFault
