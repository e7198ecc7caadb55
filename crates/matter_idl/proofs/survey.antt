-- Laws of the survey's passes.
pub mod Remembered
pub mod Laws
pub mod SecondPass
