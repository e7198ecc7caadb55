-- Laws of the readers of blanks.
pub mod Laws
