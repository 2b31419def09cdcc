mod Rows
mod Digits
pub mod Decimals
pub mod Only
pub mod Texts
pub mod Samples
