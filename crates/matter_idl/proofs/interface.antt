-- Laws of the C interface.
pub mod Laws
pub mod Outcomes
pub mod SurveyOutcomes
