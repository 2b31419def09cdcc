pub mod Outputs
pub mod Cases
pub mod Parts
pub mod Sentences
pub mod Request
pub mod Taking
