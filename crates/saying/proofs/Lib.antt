mod Decimals
pub mod Puts
pub mod LinesPut
pub mod Only
