-- Every cut of a call's stores, and what recovery makes of it.
pub mod Cuts
pub mod Mending
pub mod Restoring
pub mod Recurring
pub mod KindCuts
pub mod SafeCuts
pub mod MadeCuts
pub mod ChainCuts
pub mod HiddenKeys
