pub mod Asks
pub mod Mentions
pub mod Next
pub mod Offsets
pub mod Rooms
pub mod Together
pub mod Names
