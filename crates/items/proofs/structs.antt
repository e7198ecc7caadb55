-- Laws of the readers of fields and structs.
pub mod Laws
