-- Lemmas that other crates may cite.
pub mod Adding
pub mod Cells
pub mod Centres
pub mod Centring
pub mod Kids
pub mod Numbering
pub mod Roots
pub mod Sound
pub mod Tidy
pub mod WorldRows
