-- Lemmas that other crates may cite.
pub mod ByteRanges
pub mod Decimals
pub mod FirstLine
pub mod LineEnds
pub mod NamedValues
pub mod NumberLines
pub mod Pieces
pub mod PrintedLines
pub mod Trims
