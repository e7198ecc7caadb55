-- Laws of the readers of events.
pub mod Laws
