-- Laws of bytes.
pub mod Laws
