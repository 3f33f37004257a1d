-- Lemmas that other crates may cite.
pub mod Readings
pub mod WrittenFiles
