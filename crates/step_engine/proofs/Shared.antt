-- Lemmas that other crates may cite.
pub mod Beside
pub mod Ends
pub mod Held
pub mod Spent
