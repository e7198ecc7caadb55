-- The laws of integers.
pub mod Laws
