pub mod Prepends
pub mod Lacking
pub mod Hearing
pub mod Pushed
pub mod Shared
pub mod Names
