pub mod Sentences
pub mod Only
