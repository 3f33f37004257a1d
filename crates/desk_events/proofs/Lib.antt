pub mod Alike
pub mod Example
pub mod Leaves
pub mod ManyEvents
pub mod Shared
pub mod Names
