-- Laws of the scan for cuts.
pub mod Laws
