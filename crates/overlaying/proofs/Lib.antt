pub mod Gated
pub mod Asking
pub mod Memory
