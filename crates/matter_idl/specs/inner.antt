-- What private functions promise, and functions of private modules. No contract that another crate uses rests on it.
pub mod bits
pub mod filter
pub mod hoisting
pub mod reading
pub mod sections
pub mod survey
