mod Calls
mod Fed
mod Known
mod Looks
mod Out
mod Polls
mod Run
pub mod Shared
mod Steps
mod Turns
pub mod Names
