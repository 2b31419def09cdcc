pub mod Made
pub mod Rooms
pub mod Taken
pub mod Sentences
pub mod Only
pub mod Enough
