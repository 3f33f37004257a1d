pub mod Shared
pub mod Steps
