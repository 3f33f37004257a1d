-- Lemmas that other crates may cite.
pub mod Placed
pub mod Quarters
