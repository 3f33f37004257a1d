mod Arranged
mod Arrangements
mod Columns
mod Distinct
mod ExpandedRows
mod Finds
mod FirstMatch
mod Growing
mod Limits
pub mod Shared
mod Compositions
mod Orders
pub mod Names
