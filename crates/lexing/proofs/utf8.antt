-- The laws of well-formed UTF-8, which callers cite too, and known answers.
pub mod Laws
pub mod KnownAnswers
