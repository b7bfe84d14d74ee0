pub mod Sum
pub mod Four
pub mod Numbers
pub mod Choose
pub mod Laws
pub mod Worked
