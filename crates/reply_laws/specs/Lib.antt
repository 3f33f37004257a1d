pub mod Plain
pub mod OneLine
pub mod Anew
pub mod Current
pub mod Example
