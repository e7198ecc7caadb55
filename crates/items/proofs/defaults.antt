-- Laws of the readers of default values.
pub mod Laws
