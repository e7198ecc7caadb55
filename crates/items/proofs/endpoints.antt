-- Laws of the readers of endpoints.
pub mod Laws
