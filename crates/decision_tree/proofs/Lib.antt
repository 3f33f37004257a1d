mod Finishing
mod Following
pub mod Shared
mod HeadFaults
mod KeptNumbers
mod LastLine
mod NextNode
mod Reordered
mod SameTrees
pub mod Names
