pub mod Filling
pub mod Putting
pub mod Converting
pub mod Only
