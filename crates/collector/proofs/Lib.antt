pub mod Tellings
pub mod Only
