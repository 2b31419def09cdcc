pub mod Interim
pub mod Steps
