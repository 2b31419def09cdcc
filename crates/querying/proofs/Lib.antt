pub mod Seeking
pub mod Standings
pub mod Answered
mod Turning
