-- Laws of counts.
pub mod Laws
