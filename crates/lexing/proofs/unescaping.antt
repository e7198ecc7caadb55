-- Laws of unescaping, and its known answers.
pub mod Laws
pub mod KnownAnswers
