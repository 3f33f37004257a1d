pub mod Example
pub mod Law
pub mod Replay
