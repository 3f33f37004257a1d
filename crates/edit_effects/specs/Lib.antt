pub mod CellsAfter
