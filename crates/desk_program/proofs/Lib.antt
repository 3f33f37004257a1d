pub mod Answered
pub mod Within
