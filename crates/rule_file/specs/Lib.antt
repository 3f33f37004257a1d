pub mod Faults
pub mod Laws
pub mod Results
pub mod RuleFile
pub mod States
