pub mod Functions
pub mod Credits
pub mod Tallies
pub mod Copying
pub mod Sentences
pub mod Cases
