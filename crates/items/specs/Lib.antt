-- The definitions that the contracts of items cite: what a reader must believe.
pub mod entries
pub mod structs
pub mod members
pub mod clusters
pub mod endpoints
pub mod items
pub mod records
pub mod layout
pub mod stored
pub mod answers
pub mod inner
