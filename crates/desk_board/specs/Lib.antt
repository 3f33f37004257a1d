pub mod Picture
pub mod BoardHistory
pub mod Log
pub mod Copies
pub mod Faults
