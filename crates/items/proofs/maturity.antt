-- Laws of the readers of maturities.
pub mod Laws
