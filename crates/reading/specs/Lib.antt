pub mod Within
pub mod Gates
pub mod Levels
pub mod Tokens
