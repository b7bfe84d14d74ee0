pub mod NodeReasons
pub mod HopReasons
pub mod Helpers
pub mod Laws
