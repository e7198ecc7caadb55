-- Laws of the readers of attributes.
pub mod Laws
