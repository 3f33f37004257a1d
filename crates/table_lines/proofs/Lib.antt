mod SaidHeads
mod HeadFaults
pub mod Shared
mod Reordered
pub mod Sets
mod Splits
mod Steps
mod Unions
mod WrittenEntries
pub mod Names
