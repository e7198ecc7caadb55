-- Laws of what several heads have in them.
pub mod Laws
