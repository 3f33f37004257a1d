pub mod Ending
pub mod Greeting
pub mod Start
pub mod Line
