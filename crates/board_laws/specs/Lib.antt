pub mod Showings
pub mod Example
