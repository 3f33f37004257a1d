pub mod Bounded
pub mod Command
pub mod Fault
pub mod Setting
pub mod Told
pub mod Words
