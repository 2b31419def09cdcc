-- The laws, layer by layer: each leans on those before it.
pub mod Basics
pub mod Words
pub mod Places
pub mod Tables
pub mod Carrying
pub mod Calls
pub mod Cutting
pub mod Growth
pub mod Mission
