-- Laws of buffers.
pub mod Laws
