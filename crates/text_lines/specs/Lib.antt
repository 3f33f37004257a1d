pub mod Blanks
pub mod LineEnds
pub mod Lines
pub mod NamedValues
pub mod Numbers
pub mod RuleNames
pub use Rattle.basics.specs.Results
