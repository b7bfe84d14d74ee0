pub mod Nth
pub mod Marks
pub mod Causes
pub mod Down
