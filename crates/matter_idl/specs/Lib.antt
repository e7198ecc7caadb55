-- The definitions that the contracts of matter_idl cite: what a reader must believe.
pub mod hoisting
pub mod reading
pub mod sections
pub mod survey
pub mod demand_3
pub mod interface
pub mod answers
pub mod inner
