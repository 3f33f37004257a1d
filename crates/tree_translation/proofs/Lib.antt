mod Apart
mod Beginnings
mod Doing
mod Layering
mod MadeNodes
mod NodeLists
mod Runs
mod TailsLeft
mod TailsNear
mod Translating
pub mod Shared
pub mod Names
