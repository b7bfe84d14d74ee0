pub mod Groups
pub mod HandedOn
pub mod Back
pub mod Laws
pub mod Functions
