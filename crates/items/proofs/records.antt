-- Laws of reading records back.
pub mod Laws
