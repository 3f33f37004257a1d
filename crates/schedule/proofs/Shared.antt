-- Lemmas that other crates may cite.
pub mod Acts
pub mod Alike
pub mod Arrivals
pub mod Branches
pub mod Changed
pub mod Felt
pub mod Fits
pub mod History
pub mod Ids
pub mod Lines
pub mod Reach
pub mod Repeats
