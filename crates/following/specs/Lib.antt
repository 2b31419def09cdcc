pub mod Scripts
pub mod Sentences
