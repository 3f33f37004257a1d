-- Lemmas that other crates may cite.
pub mod Cells
pub mod Keeps
pub mod Local
pub mod Stepped
pub mod Steps
