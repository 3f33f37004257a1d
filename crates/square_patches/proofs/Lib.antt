pub mod Laid
pub mod Middles
pub mod Names
