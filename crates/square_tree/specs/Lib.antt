pub mod Cells
pub mod Change
pub mod Entries
pub mod Laid
pub mod Over
pub mod Place
pub mod Quadtree
pub mod TreeOf
