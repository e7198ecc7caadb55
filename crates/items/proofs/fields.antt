-- Laws of the readers of fields.
pub mod Laws
