pub mod Passes
pub mod Refusal
pub mod Parts
pub mod Functions
pub mod Outcomes
