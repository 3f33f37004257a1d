pub mod Answer
pub mod Entries
pub mod Inline
pub mod Past
pub mod Posted
pub mod Room
pub mod Serving
pub mod Value
