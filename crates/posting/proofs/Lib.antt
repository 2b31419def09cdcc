pub mod Taking
pub mod Whole
pub mod Only
