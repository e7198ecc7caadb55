-- Laws of the readers of annotations.
pub mod Laws
