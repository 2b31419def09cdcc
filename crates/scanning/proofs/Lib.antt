mod Alike
pub mod Copying
mod Meeting
pub mod Ranges
pub mod Told
