-- The laws of strings.
pub mod Laws
