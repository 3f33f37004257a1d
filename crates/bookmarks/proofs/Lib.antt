pub mod Lines
pub mod Rows
pub mod Places
pub mod Names
