pub mod Asked
pub mod Found
pub mod Requests
pub mod Walked
