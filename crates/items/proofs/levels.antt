-- Laws of the readers of levels.
pub mod Keywords
pub mod Laws
