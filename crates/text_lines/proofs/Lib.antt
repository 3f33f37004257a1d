pub mod Shared
pub mod Names
