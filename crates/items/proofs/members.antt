-- Laws of the readers of members.
pub mod Laws
