pub mod Putting
pub mod Only
