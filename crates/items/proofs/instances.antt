-- Laws of the readers of instances.
pub mod Laws
