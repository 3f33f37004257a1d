pub mod AllMarks
pub mod MostMarks
