-- Lemmas that other crates may cite.
pub mod Ending
pub mod Memos
pub mod Picked
pub mod Roots
