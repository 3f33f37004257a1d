pub mod Quadtree
pub mod Pattern
pub mod Tables
pub mod PatternText
pub mod Lines
pub mod Laws
