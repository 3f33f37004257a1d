pub mod Marked
pub mod Shared
pub mod Names
