-- What one whole growth costs, and one whole shrink.
pub mod InterimBits
pub mod InterimKept
pub mod GrowthCost
pub mod CostlyShrink
pub mod Passes
