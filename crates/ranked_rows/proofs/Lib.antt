pub mod Passed
pub mod Shared
