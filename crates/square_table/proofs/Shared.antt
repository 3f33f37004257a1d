-- Lemmas that other crates may cite.
pub mod Centring
pub mod Growth
pub mod Making
pub mod Numbers
pub mod Tables
