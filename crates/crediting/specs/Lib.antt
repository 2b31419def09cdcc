pub mod Ledgers
pub mod Books
pub mod Sentences
