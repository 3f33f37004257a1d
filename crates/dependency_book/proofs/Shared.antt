-- Lemmas that other crates may cite.
pub mod Cores
pub mod Opened
pub mod Recalling
pub mod Settled
