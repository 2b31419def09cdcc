pub mod Walks
pub mod Promises
