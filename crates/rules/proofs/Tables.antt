-- What a table is: its taken slots and interim items, soundness, the map, and what recovery finds.
pub mod Twins
pub mod Interims
pub mod Sound
pub mod Maps
pub mod Targets
pub mod Findings
