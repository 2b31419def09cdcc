pub mod Texts
pub mod Promises
pub mod Writing
pub mod Examples
