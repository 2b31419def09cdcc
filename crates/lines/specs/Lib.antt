pub mod Lines
pub mod Found
pub mod Promises
pub mod Texts
pub mod Samples
