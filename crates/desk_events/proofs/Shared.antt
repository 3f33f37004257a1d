-- Lemmas that other crates may cite.
pub mod Bookmarks
pub mod Called
pub mod Gives
pub mod Listed
pub mod Marks
pub mod Needs
pub mod Opened
pub mod Right
pub mod Start
pub mod Stays
pub mod StillWanted
pub mod Tests
pub mod Touching
pub mod Walk
