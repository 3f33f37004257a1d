-- Lemmas that other crates may cite.
pub mod Asks
pub mod ReadsBack
pub mod Said
