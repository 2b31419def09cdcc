pub mod Turns
pub mod Promises
