-- A rule table, as its lines say it.
pub use Rattle.table_lines.specs.Table.{Table, headed}
