pub mod Faults
pub mod Home
pub mod Lanes
pub mod Past
pub mod Pool
