pub mod Bytes
pub mod Lengths
pub mod Splitting
pub mod Whole
pub mod Parts
pub mod Only
pub mod Inputs
