pub mod Counts
pub mod Rle
pub mod Text
pub mod Value
pub mod Window
pub mod Within
