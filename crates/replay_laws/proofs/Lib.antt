pub mod Example
pub mod Elements
pub mod Shared
pub mod Branches
pub mod Bookmarks
pub mod Interventions
pub mod Names
