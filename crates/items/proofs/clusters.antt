-- Laws of the readers of clusters.
pub mod Laws
pub mod Whole
