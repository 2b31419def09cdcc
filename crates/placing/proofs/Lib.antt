mod Choosing
pub mod Placings
pub mod Goals
mod Moving
