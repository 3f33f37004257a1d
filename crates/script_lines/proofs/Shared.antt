-- Lemmas that other crates may cite.
pub mod Ahead
pub mod Known
pub mod Taking
pub mod Told
