pub mod Sum
pub mod Figures
pub mod Laws
pub mod Worked
