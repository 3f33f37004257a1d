-- Lemmas that other crates may cite.
pub mod Renumbered
pub mod SaidTables
pub mod WordBits
pub mod WrittenFiles
pub mod WrittenSets
pub mod WrittenTables
