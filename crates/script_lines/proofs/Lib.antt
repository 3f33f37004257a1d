pub mod Shared
pub mod Keeping
pub mod Reading
pub mod Splitting
pub mod Squash
pub mod Trims
pub mod Names
