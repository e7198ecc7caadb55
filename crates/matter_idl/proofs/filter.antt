-- Laws of the filter.
pub mod Laws
