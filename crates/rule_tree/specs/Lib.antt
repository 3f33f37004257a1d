pub mod Asked
pub mod Forms
pub mod Laws
pub mod NamedRule
pub mod Rule
pub mod RuleLaws
