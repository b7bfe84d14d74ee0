pub mod Steps
pub mod Refusals
pub mod Local
pub mod Outcomes
pub mod Functions
