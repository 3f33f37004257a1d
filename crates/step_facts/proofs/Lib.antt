pub mod Cells
pub mod Equal
pub mod Taking
