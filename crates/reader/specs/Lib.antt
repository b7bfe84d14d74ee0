pub mod Reader
pub mod Reading
pub mod Laws
