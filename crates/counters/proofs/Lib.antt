pub mod Adding
pub mod Kinded
pub mod Outcomes
pub mod Walking
pub mod Rows
pub mod Tabled
pub mod Whole
pub mod Functions
