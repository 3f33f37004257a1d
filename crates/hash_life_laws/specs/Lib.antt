pub mod Result
pub mod Puts
pub mod Makes
