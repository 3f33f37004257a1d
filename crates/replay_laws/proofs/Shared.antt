-- Lemmas that other crates may cite.
pub mod Leading
pub mod Made
pub mod Remade
pub mod Worlds
