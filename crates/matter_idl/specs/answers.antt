-- What the code's answers say in terms of the definitions.
pub mod reading
