pub mod Promises
pub mod Indexes
