-- Lemmas that other crates may cite.
pub mod SaidTables
pub mod WrittenTables
