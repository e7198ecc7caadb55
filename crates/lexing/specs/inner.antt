-- What private functions promise, and functions of private modules. No contract that another crate uses rests on it.
pub mod blanks
pub mod eights
pub mod integers
pub mod strings
pub mod unescaping
pub mod utf8
pub mod word_sets
pub mod words
