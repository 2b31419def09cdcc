pub mod Searches
pub mod Growth
pub mod Stepping
