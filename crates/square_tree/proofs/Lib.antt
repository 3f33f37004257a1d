pub mod Covered
pub mod Shared
pub mod Shown
pub mod Mapped
pub mod Windows
pub mod Names
