-- Lemmas that other crates may cite.
pub mod Lists
pub mod Tests
