pub mod Asked
pub mod Generation
pub mod Listed
pub mod Room
