mod Halves
pub mod Marked
