-- Laws of the steps from an offset of a part.
pub mod Laws
