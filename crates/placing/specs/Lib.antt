pub mod Within
pub mod Buckets
pub mod Search
