pub mod Runs
pub mod Placings
pub mod Outcomes
pub mod Steps
