pub mod Reading
pub mod Front
