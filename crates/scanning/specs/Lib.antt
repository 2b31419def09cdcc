pub mod Copying
pub mod Scans
