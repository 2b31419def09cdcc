pub mod Fillings
pub mod Promises
