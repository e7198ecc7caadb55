-- Laws of hoisting.
pub mod Search
pub mod Walk
pub mod Marks
pub mod Laws
pub mod Marking
pub mod Moved
pub mod Types
