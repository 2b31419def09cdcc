-- From one table to another: which items are carried over, and what the stores that touch a slot do.
pub mod Carried
pub mod Moving
pub mod Touched
pub mod StoreKinds
pub mod SlotChanged
pub mod Putting
pub mod ItemMoved
pub mod Blank
pub mod Restated
