pub mod Blocks
pub mod Names
pub mod Picked
pub mod Reported
