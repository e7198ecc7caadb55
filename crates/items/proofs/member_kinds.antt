-- Laws of the kinds of members.
pub mod Laws
