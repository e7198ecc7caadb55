-- Laws of reading.
pub mod Laws
pub mod Judged
pub mod Marked
