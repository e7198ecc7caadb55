-- Laws of the readers of entries.
pub mod Laws
