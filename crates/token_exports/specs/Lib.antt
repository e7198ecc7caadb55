-- The definitions that the contracts of token_exports cite.
pub mod exports
