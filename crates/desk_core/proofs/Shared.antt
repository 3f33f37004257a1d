-- Lemmas that other crates may cite.
pub mod Called
pub mod Causes
pub mod Given
pub mod Recalled
