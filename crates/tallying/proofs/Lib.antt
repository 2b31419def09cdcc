pub mod Searching
pub mod Inserting
pub mod Crediting
pub mod Counting
pub mod Sentences
pub mod Only
