pub mod Balance
pub mod Ends
pub mod Slips
pub mod Tables
