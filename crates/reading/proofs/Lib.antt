pub mod HeaderTests
pub mod Marks
pub mod TokenWords
pub mod Gated
pub mod Placed
