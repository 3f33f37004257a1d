pub mod Evolved
pub mod Box
pub mod Reach
pub mod Padded
pub mod Kept
pub mod Pieces
