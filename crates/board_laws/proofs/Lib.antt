pub mod Showings
pub mod Told
pub mod Same
pub mod Example
