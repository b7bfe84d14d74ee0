pub mod Tests
pub mod Addresses
pub mod Notice
pub mod Laws
