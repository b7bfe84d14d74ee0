pub mod Phase
pub mod Blocks
pub mod Course
pub mod Turns
pub mod Board
pub mod Figure
pub mod Laws
pub mod Worked
