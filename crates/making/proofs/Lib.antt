mod Creation
mod Making
pub mod Only
