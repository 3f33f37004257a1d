-- Lemmas that other crates may cite.
pub mod Growing
pub mod KeptNodes
pub mod Renumbered
pub mod SaidNodes
pub mod WrittenFiles
pub mod WrittenTrees
