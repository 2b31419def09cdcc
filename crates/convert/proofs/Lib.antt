pub mod Parts
mod Ways
pub mod Sentences
pub mod Request
