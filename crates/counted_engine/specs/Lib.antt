pub mod Evolved
pub mod Found
