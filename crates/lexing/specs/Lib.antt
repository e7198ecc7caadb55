-- The definitions that the contracts of lexing cite: what a reader must believe.
pub mod reply
pub mod bytes
pub mod runs
pub mod blanks
pub mod words
pub mod integers
pub mod strings
pub mod word_sets
pub mod utf8
pub mod buffers
pub mod outcomes
pub mod unescaping
pub mod answers
pub mod names
pub mod inner
