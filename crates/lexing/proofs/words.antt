-- Laws of the readers of words, keywords and tags.
pub mod Laws
