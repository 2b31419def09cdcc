-- Where a key may stand, where it is looked for, and where it is placed.
pub mod Probing
pub mod PlacesWithin
pub mod Few
pub mod PlacesInUse
pub mod Lookups
pub mod Chosen
pub mod MoveOrder
pub mod Moves
pub mod Candidates
pub mod Placings
