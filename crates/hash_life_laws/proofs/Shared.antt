-- Lemmas that other crates may cite.
pub mod Below
pub mod Grids
pub mod InTwo
pub mod Made
pub mod Nine
pub mod Places
pub mod Put
pub mod Steps
