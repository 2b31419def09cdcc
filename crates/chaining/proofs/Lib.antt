pub mod Walking
pub mod Answered
