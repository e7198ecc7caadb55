-- Laws of a fixed array of bits.
pub mod Laws
