mod Comments
pub mod Shared
mod Remarks
mod Saying
