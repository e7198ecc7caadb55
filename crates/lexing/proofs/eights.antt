-- Laws of numbers by their bytes.
pub mod Laws
