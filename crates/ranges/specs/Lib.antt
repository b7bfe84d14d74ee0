pub mod Grammar
pub mod Written
pub mod Laws
