mod Anywhere
pub mod BodyReads
pub mod Boxes
mod Drawings
pub mod HeadReads
pub mod LiveCells
pub mod PatternReads
pub mod Runs
pub mod StripCells
mod Strips
pub mod Names
