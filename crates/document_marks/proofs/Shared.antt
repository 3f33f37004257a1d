-- Lemmas that other crates may cite.
pub mod Grown
pub mod Ranks
