pub mod Events
pub mod Replays
pub mod Sentences
pub mod Rooms
