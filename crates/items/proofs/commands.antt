-- Laws of the readers of commands.
pub mod Laws
