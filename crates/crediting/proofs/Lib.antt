pub mod Figures
pub mod Whole
pub mod Counting
pub mod Sentences
pub mod Only
