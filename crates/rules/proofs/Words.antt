-- Where words stand and what they say: states, headers, levels, buckets, slots, token words, stores.
pub mod Forms
pub mod States
pub mod Headers
pub mod HeaderWords
pub mod Levels
pub mod Unused
pub mod Fields
pub mod Tokens
pub mod Addresses
pub mod FreeSlots
pub mod SlotsInUse
pub mod Made
pub mod Pairs
pub mod Figures
