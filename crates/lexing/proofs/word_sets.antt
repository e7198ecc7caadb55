-- Laws of the readers of word sets.
pub mod Laws
